use Rattle.ark_base.proofs.Element32.{unit_times}
use Rattle.ark_base.proofs.prime_field32.PrimeField32.from_scaled.Goals as goal

pub returns-clause-some : goal.returns-clause-some
returns-clause-some g c = unit_times {g = g.M.PrimeModulus32} g.M.PrimeModulus32.modulus _
