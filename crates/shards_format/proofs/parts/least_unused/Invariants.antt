use Rattle.shards_format.proofs.UsedPlaces.{Met}
use Rattle.shards_format.proofs.parts.least_unused.Given as goal

abbrev pub invariant-loop-number : goal.invariant-loop-number
invariant-loop-number l = Met l.used l.numbers l.number-index
