use Rattle.std.proofs.Common.{◌<◌, length}
use Rattle.ark_points.proofs.places.place_of.Given as goal

abbrev pub invariant-loop-i : goal.invariant-loop-i
invariant-loop-i g l = l.place < length l.table
