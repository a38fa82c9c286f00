use Rattle.std.proofs.Common.{◌≡◌, ℕ, ◌^◌, ◌<◌, get_or, length}
use Rattle.ark_math_transforms.specs.BitReversal.{reversed}
use Rattle.rs_code.proofs.turns.reversed_places.Given as goal

abbrev pub invariant-loop-i : goal.invariant-loop-i
invariant-loop-i l = record {
  len : length l.places.items ≡ l.i;
  done : (levels k : ℕ) → l.count ≡ 2 ^ levels → k < l.i → get_or l.places.items k 0 ≡ reversed levels k;
}
