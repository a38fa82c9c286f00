use Rattle.std.proofs.Common.{◌∙◌, sym}
use Rattle.ark_prime256.proofs.Constants.{large_is_greatest, two_adic_is_greatest}
use Rattle.ark_prime256.proofs.prime_field.PrimeField256.greatest_root.Goals as goal

pub returns-in-Some : goal.returns-in-Some
returns-in-Some g c =
    large_is_greatest g.M.PrimeModulus256.modulus c.in-Some.words _ (sym c.LARGE_SUBGROUP_ROOT_WORDS.ensures ∙ c.in-Some.is) c.reduce.ensures

pub returns-in-None : goal.returns-in-None
returns-in-None g c =
    two_adic_is_greatest g.M.PrimeModulus256.modulus c.TWO_ADIC_ROOT_WORDS.result _ (sym c.LARGE_SUBGROUP_ROOT_WORDS.ensures ∙ c.in-None.is) c.TWO_ADIC_ROOT_WORDS.ensures c.reduce-in-None.ensures
