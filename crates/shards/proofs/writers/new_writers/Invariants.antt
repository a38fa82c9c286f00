use Rattle.std.proofs.Common.{◌≡◌, ℕ, ◌<◌, [], length, get_or}
use Rattle.shards_streams.specs.Writers.{HasHashed}
use Rattle.shards.proofs.writers.new_writers.Given as goal

abbrev pub invariant-loop-number : goal.invariant-loop-number
invariant-loop-number g l = record {
  len : length l.writers.items ≡ l.number-index;
  new : (i : ℕ) (d : _) → i < l.number-index → HasHashed (get_or l.writers.items i d) [];
}
