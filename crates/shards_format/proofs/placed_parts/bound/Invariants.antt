use Rattle.std.proofs.Common.{◌≡◌, ℕ, ◌<◌, ◌≤◌, get_or}
use Rattle.shards_format.proofs.placed_parts.bound.Given as goal

abbrev pub invariant-loop-p : goal.invariant-loop-p
invariant-loop-p l = record {
  small : (i : ℕ) → i < l.p → get_or l.numbers i 0 ≤ 65536;
  others : (i : ℕ) → get_or l.fn.numbers i 0 ≤ 65536 → get_or l.numbers i 0 ≡ get_or l.fn.numbers i 0;
}
