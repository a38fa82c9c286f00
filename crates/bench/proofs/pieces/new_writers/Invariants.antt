use Rattle.std.proofs.Common.{◌≡◌, ℕ, ◌<◌, [], length, get_or}
use Rattle.shards_streams.specs.Writers.{HasHashed}
use Rattle.bench.proofs.pieces.new_writers.Given as goal

abbrev pub invariant-loop : goal.invariant-loop
invariant-loop g l = record {
  len : length l.writers.items ≡ l.counter;
  new : (i : ℕ) (d : _) → i < l.counter → HasHashed (get_or l.writers.items i d) [];
}
