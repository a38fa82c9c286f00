use Rattle.std.proofs.Common.{length}
use Rattle.ark_subproducts.proofs.products.+product.Given as goal

abbrev pub decreases-product : goal.decreases-product
decreases-product g l = length l.points.now
