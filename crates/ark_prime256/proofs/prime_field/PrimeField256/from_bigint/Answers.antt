use Rattle.std.proofs.Common.{◌∙◌, mod-eq_of_lt}
use Rattle.ark_prime256.specs.Words.{integer}
use Rattle.ark_prime256.proofs.Element.{below_modulus}
use Rattle.ark_prime256.proofs.prime_field.PrimeField256.from_bigint.Goals as goal

pub returns-then-is_below-clause-some : goal.returns-then-is_below-clause-some
returns-then-is_below-clause-some g c =
    let m = g.M.PrimeModulus256 in
    c.reduce.ensures ∙ mod-eq_of_lt (below_modulus m m.modulus c.MODULUS_WORDS.result (integer c.args.value) c.MODULUS_WORDS.ensures (c.is_below.ensures.below c.if-is_below.true))
