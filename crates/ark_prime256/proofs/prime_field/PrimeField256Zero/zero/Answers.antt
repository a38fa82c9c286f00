use Rattle.ark_prime256.proofs.Element.{zero_is}
use Rattle.ark_prime256.proofs.prime_field.PrimeField256Zero.zero.Goals as goal

pub returns : goal.returns
returns g c = zero_is g.M.PrimeModulus256.modulus _ c.of_word.ensures
