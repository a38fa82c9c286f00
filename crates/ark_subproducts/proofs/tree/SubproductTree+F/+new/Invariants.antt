use Rattle.std.proofs.Common.{length}
use Rattle.ark_subproducts.proofs.tree.SubproductTree+F.+new.Given as goal

abbrev pub decreases-new : goal.decreases-new
decreases-new g l = length l.points.now
