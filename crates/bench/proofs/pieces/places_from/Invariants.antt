use Rattle.std.proofs.Common.{◌≡◌, ℕ, ◌<◌, ◌+◌, length, get_or}
use Rattle.bench.proofs.pieces.places_from.Given as goal

abbrev pub invariant-loop-a : goal.invariant-loop-a
invariant-loop-a g l =
    record {
      len : length l.places.items ≡ l.a;
      each : (a : ℕ) → a < l.a → get_or l.places.items a 0 ≡ l.least + a;
    }
