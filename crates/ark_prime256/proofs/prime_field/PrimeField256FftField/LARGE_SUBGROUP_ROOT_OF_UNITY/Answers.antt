use Rattle.std.proofs.Common.{◌∙◌, sym}
use Rattle.ark_prime256.proofs.Constants.{some_constant}
use Rattle.ark_prime256.proofs.prime_field.PrimeField256FftField.LARGE_SUBGROUP_ROOT_OF_UNITY.Goals as goal

pub returns-in-Some : goal.returns-in-Some
returns-in-Some g c =
    let m = g.M.PrimeModulus256 in
    some_constant m.modulus m.LARGE_SUBGROUP_ROOT_OF_UNITY c.in-Some.words _
    (sym m.modulus.words.large_is ∙ sym c.LARGE_SUBGROUP_ROOT_WORDS.ensures ∙ c.in-Some.is) c.reduce.ensures
