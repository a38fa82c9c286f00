use Rattle.ark_prime256.proofs.Element.{product_is}
use Rattle.ark_prime256.proofs.prime_field.PrimeField256Mul.mul.Goals as goal

pub returns : goal.returns
returns g c = product_is g.M.PrimeModulus256.modulus c.args.self c.args.rhs _ c.montgomery_product.ensures.residue
