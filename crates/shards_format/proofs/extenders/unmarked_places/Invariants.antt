use Rattle.shards_format.proofs.PlaceLists.{Unmarked}
use Rattle.shards_format.proofs.extenders.unmarked_places.Given as goal

abbrev pub invariant-loop-j : goal.invariant-loop-j
invariant-loop-j l = Unmarked l.marks l.places.items l.j
