use Rattle.std.proofs.Common.{refl}
use Rattle.ark_base.specs.Element.{same_from_value}
use Rattle.ark_base.proofs.prime_field.PrimeFieldConstantZero.ZERO.Goals as goal

pub returns : goal.returns
returns g c = same_from_value _ _ refl
