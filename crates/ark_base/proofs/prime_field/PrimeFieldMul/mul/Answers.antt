use Rattle.ark_base.specs.Element.{same_from_value}
use Rattle.ark_base.proofs.Reductions.{largest_product}
use Rattle.ark_base.proofs.prime_field.PrimeFieldMul.mul.Goals as goal

pub reduce_product-requires-clause-product : goal.reduce_product-requires-clause-product
reduce_product-requires-clause-product g c = largest_product _ _ _ c.args.self.reduced c.args.rhs.reduced

pub reduce_wide-requires : goal.reduce_wide-requires
reduce_wide-requires g c = largest_product _ _ _ c.args.self.reduced c.args.rhs.reduced

pub returns-then-MODULUS : goal.returns-then-MODULUS
returns-then-MODULUS g c = same_from_value _ _ c.reduce_product.ensures

pub returns-else-MODULUS : goal.returns-else-MODULUS
returns-else-MODULUS g c = same_from_value _ _ c.reduce_wide.ensures
