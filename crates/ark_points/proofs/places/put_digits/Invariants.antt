use Rattle.std.proofs.Common.{◌≡◌, ℕ, ◌+◌, ◌*◌, ◌<◌, ◌≤◌, length, get_or}
use Rattle.ark_points.proofs.places.put_digits.Given as goal

abbrev pub invariant-loop-i : goal.invariant-loop-i
invariant-loop-i l =
    record {
      len : length l.places ≡ length l.initial.places;
      done : (k : ℕ) → k < l.i → get_or l.places k 0 ≡ get_or l.digits k 0 + l.base * get_or l.initial.places k 0;
      rest : (k : ℕ) → l.i ≤ k → get_or l.places k 0 ≡ get_or l.initial.places k 0;
    }
