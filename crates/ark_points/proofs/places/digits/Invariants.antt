use Rattle.std.proofs.Common.{◌≡◌, ◌<◌, ℕ, length, get_or}
use Rattle.ark_points.proofs.places.digits.Given as goal

abbrev pub invariant-loop-i : goal.invariant-loop-i
invariant-loop-i g l =
    record {
      len : length l.digits.items ≡ l.i;
      below : (k : ℕ) → k < l.i → get_or l.digits.items k 0 < l.base;
    }
