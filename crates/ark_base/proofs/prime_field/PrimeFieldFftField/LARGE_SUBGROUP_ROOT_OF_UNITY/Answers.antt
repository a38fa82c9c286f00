use Rattle.std.proofs.Common.{◌∙◌, sym}
use Rattle.ark_base.proofs.Element.{large_below, some_large}
use Rattle.ark_base.proofs.prime_field.PrimeFieldFftField.LARGE_SUBGROUP_ROOT_OF_UNITY.Goals as goal

pub invariant_of-result : goal.invariant_of-result
invariant_of-result g c =
    record { reduced = large_below g.M.PrimeModulus g.M.PrimeModulus.modulus _ (sym c.LARGE_SUBGROUP_ROOT_OF_UNITY.ensures ∙ c.in-Some.is) }

pub returns-in-Some : goal.returns-in-Some
returns-in-Some g c = some_large g.M.PrimeModulus.modulus _ (sym c.LARGE_SUBGROUP_ROOT_OF_UNITY.ensures ∙ c.in-Some.is)
