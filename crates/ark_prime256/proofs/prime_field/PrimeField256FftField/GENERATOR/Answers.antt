use Rattle.std.proofs.Common.{◌∙◌}
use Rattle.ark_prime256.proofs.Constants.{element_is, constant_number}
use Rattle.ark_prime256.proofs.prime_field.PrimeField256FftField.GENERATOR.Goals as goal

pub returns : goal.returns
returns g c =
    let m = g.M.PrimeModulus256 in
    element_is m.modulus _ m.GENERATOR _ (constant_number m.modulus _ c.GENERATOR_WORDS.result m.GENERATOR c.reduce.ensures (c.GENERATOR_WORDS.ensures ∙ m.modulus.words.generator_is))
