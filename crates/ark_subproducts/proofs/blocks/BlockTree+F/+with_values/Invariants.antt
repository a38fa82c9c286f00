use Rattle.std.proofs.Common.{length}
use Rattle.ark_subproducts.proofs.blocks.BlockTree+F.+with_values.Given as goal

abbrev pub decreases-with_values : goal.decreases-with_values
decreases-with_values g l = length l.part.now.points.now
