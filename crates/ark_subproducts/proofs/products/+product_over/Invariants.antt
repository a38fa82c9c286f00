use Rattle.std.proofs.Common.{length}
use Rattle.ark_subproducts.proofs.products.+product_over.Given as goal

abbrev pub decreases-product_over : goal.decreases-product_over
decreases-product_over g l = length l.points.now
