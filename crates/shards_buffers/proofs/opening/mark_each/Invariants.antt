use Rattle.std.proofs.Common.{◌≡◌, ◌≢◌, ℕ, ◌<◌, length, get_or, false, true}
use Rattle.shards_buffers.proofs.opening.mark_each.Given as goal

abbrev pub invariant-loop-place : goal.invariant-loop-place
invariant-loop-place l = record {
  len : length l.seen ≡ length l.fn.seen;
  apart : (a b : ℕ) → a < b → b < l.place-index → get_or l.places a 0 ≢ get_or l.places b 0;
  marked : (a : ℕ) → a < l.place-index → get_or l.seen (get_or l.places a 0) false ≡ true;
  others : (j : ℕ) → get_or l.seen j false ≡ true → (a : ℕ) × (a < l.place-index) × (get_or l.places a 0 ≡ j);
}
