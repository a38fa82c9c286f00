use Rattle.std.proofs.Common.{refl}
use Rattle.ark_base.proofs.Element32.{zero_is}
use Rattle.ark_base.proofs.prime_field32.PrimeField32ConstantZero.ZERO.Goals as goal

pub returns : goal.returns
returns g c = zero_is {g = g.M.PrimeModulus32} g.M.PrimeModulus32.modulus _ refl
