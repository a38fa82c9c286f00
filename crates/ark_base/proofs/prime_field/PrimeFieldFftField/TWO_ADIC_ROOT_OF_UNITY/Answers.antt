use Rattle.std.proofs.Common.{◌∙◌}
use Rattle.ark_base.specs.Element.{same_from_value}
use Rattle.ark_base.specs.ModulusLaws.{below_modulus}
use Rattle.ark_base.proofs.prime_field.PrimeFieldFftField.TWO_ADIC_ROOT_OF_UNITY.Goals as goal

pub invariant_of-result : goal.invariant_of-result
invariant_of-result g c =
    let m = g.M.PrimeModulus.modulus in
    record { reduced = below_modulus m.prime 64 _ _ _ (c.TWO_ADIC_ROOT_OF_UNITY.ensures ∙ m.two_adic_is) }

pub returns : goal.returns
returns g c = same_from_value _ _ c.TWO_ADIC_ROOT_OF_UNITY.ensures
