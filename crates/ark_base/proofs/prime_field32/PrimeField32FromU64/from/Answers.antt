use Rattle.ark_base.proofs.Element32.{residue_is}
use Rattle.ark_base.proofs.prime_field32.PrimeField32FromU64.from.Goals as goal

pub returns : goal.returns
returns g c = residue_is {g = g.M.PrimeModulus32} g.M.PrimeModulus32.modulus _ c.args.value c.reduce.ensures
