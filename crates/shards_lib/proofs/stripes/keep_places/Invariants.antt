use Rattle.std.proofs.Common.{◌≡◌, ℕ, ◌<◌, ◌+◌, get_or, length, true, false}
use Rattle.rs_code.specs.Codeword.{mark_count}
use Rattle.shards_lib.proofs.stripes.keep_places.Given as goal

abbrev pub invariant-loop-a : goal.invariant-loop-a
invariant-loop-a l = record {
  count : mark_count l.erased + l.a ≡ length l.initial.erased;
  kept : (i : ℕ) → get_or l.erased i true ≡ false → (a : ℕ) × (a < l.a) × (get_or l.places a 0 ≡ i);
  unmarked : (b : ℕ) → b < l.a → get_or l.erased (get_or l.places b 0) true ≡ false;
}
