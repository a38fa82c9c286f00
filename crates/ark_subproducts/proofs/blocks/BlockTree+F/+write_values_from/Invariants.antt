use Rattle.std.proofs.Common.{length}
use Rattle.ark_subproducts.proofs.blocks.BlockTree+F.+write_values_from.Given as goal

abbrev pub decreases-write_values_from : goal.decreases-write_values_from
decreases-write_values_from g l = length l.part.now.points.now
