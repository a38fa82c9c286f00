use Rattle.std.proofs.Common.{ap, ◌∙◌, sym}
use Rattle.ark_math.specs.Field.{natural}
use Rattle.ark_prime256.specs.Element.{numbering, field_of}
use Rattle.ark_base.specs.ResiduesLaws.{natural_of_number}
use Rattle.ark_prime256.proofs.Element.{words_are_number}
use Rattle.ark_prime256.proofs.prime_field.PrimeField256.into_bigint.Goals as goal

pub returns-clause-number : goal.returns-clause-number
returns-clause-number g c =
    words_are_number g.M.PrimeModulus256.modulus c.args.self c.montgomery_product.result c.of_word.result
    c.montgomery_product.ensures.below c.of_word.ensures c.montgomery_product.ensures.residue

pub returns-clause-natural : goal.returns-clause-natural
returns-clause-natural g c =
    let S = g.M.PrimeModulus256.modulus in
    natural_of_number (numbering S) S.numbers.prime c.args.self
    ∙ ap (natural (field_of S)) (sym (words_are_number S c.args.self c.montgomery_product.result c.of_word.result
    c.montgomery_product.ensures.below c.of_word.ensures c.montgomery_product.ensures.residue))
