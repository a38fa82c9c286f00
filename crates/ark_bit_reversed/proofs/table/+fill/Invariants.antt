use Rattle.std.proofs.Common.{length}
use Rattle.ark_bit_reversed.proofs.table.+fill.Given as goal

abbrev pub decreases-fill : goal.decreases-fill
decreases-fill g l = length l.roots.now
