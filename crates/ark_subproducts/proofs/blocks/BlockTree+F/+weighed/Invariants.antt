use Rattle.std.proofs.Common.{length}
use Rattle.ark_subproducts.proofs.blocks.BlockTree+F.+weighed.Given as goal

abbrev pub decreases-weighed : goal.decreases-weighed
decreases-weighed g l = length l.part.now.points.now
