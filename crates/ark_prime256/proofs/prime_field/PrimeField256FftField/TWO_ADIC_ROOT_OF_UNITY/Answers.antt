use Rattle.std.proofs.Common.{◌∙◌}
use Rattle.ark_prime256.proofs.Constants.{element_is, constant_number}
use Rattle.ark_prime256.proofs.prime_field.PrimeField256FftField.TWO_ADIC_ROOT_OF_UNITY.Goals as goal

pub returns : goal.returns
returns g c =
    let m = g.M.PrimeModulus256 in
    element_is m.modulus _ m.TWO_ADIC_ROOT_OF_UNITY _
    (constant_number m.modulus _ c.TWO_ADIC_ROOT_WORDS.result m.TWO_ADIC_ROOT_OF_UNITY c.reduce.ensures (c.TWO_ADIC_ROOT_WORDS.ensures ∙ m.modulus.words.two_adic_is))
