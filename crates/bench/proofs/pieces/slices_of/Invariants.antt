use Rattle.std.proofs.Common.{◌≡◌, length}
use Rattle.bench.proofs.pieces.slices_of.Given as goal

abbrev pub invariant-loop-body : goal.invariant-loop-body
invariant-loop-body l = length l.slices.items ≡ l.body-index
