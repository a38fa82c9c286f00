use Rattle.ark_base.proofs.Element32.{product_is}
use Rattle.ark_base.proofs.prime_field32.PrimeField32Mul.mul.Goals as goal

pub returns : goal.returns
returns g c = product_is {g = g.M.PrimeModulus32} g.M.PrimeModulus32.modulus c.args.self c.args.rhs _ c.montgomery_product.ensures.residue
