use Rattle.std.proofs.Common.{ap, ◌∙◌, sym}
use Rattle.ark_math.specs.Field.{natural}
use Rattle.ark_base.specs.Element32.{numbering, field_of}
use Rattle.ark_base.specs.ResiduesLaws.{natural_of_number}
use Rattle.ark_base.proofs.Element32.{word_is_number}
use Rattle.ark_base.proofs.prime_field32.PrimeField32.value.Goals as goal

pub returns-clause-number : goal.returns-clause-number
returns-clause-number g c =
    word_is_number {g = g.M.PrimeModulus32} g.M.PrimeModulus32.modulus c.args.self _ c.montgomery_product.ensures.below c.montgomery_product.ensures.residue

pub returns-clause-natural : goal.returns-clause-natural
returns-clause-natural g c =
    let m = g.M.PrimeModulus32 in
    let S = m.modulus in
    natural_of_number (numbering {g = m} S) S.numbers.prime c.args.self
    ∙ ap (natural (field_of {g = m} S)) (sym (word_is_number {g = m} S c.args.self _ c.montgomery_product.ensures.below c.montgomery_product.ensures.residue))
