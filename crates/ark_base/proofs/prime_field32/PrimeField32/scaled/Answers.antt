use Rattle.std.proofs.Common.{sym}
use Rattle.ark_base.proofs.Element32.{unit_times}
use Rattle.ark_base.proofs.prime_field32.PrimeField32.scaled.Goals as goal

pub returns : goal.returns
returns g c = sym (unit_times {g = g.M.PrimeModulus32} g.M.PrimeModulus32.modulus c.args.self)
