use Rattle.std.proofs.Common.{length}
use Rattle.shards_format.proofs.PlaceLists.{Marked}
use Rattle.shards_format.proofs.extenders.mark_places.Given as goal

abbrev pub invariant-loop-place : goal.invariant-loop-place
invariant-loop-place l = Marked (length l.fn.marks) l.marks l.places l.place-index
