use Rattle.ark_prime256.proofs.Element.{one_is}
use Rattle.ark_prime256.proofs.prime_field.PrimeField256One.one.Goals as goal

pub returns : goal.returns
returns g c = one_is g.M.PrimeModulus256.modulus _ c.R.ensures
