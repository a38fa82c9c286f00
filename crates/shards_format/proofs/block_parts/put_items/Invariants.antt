use Rattle.std.proofs.Common.{◌≡◌, ℕ, ◌+◌, ◌%◌, ◌<◌, ◌≤◌, get_or, length}
use Rattle.shards_format.specs.Stripes.{item}
use Rattle.shards_format.proofs.block_parts.put_items.Given as goal

abbrev pub invariant-loop-s : goal.invariant-loop-s
invariant-loop-s l = record {
  here : (i : ℕ) → i < l.s → item l.bytes (l.first + i) ≡ get_or l.numbers i 0 % 65536;
  before : (i : ℕ) → i < l.first → item l.bytes i ≡ item l.fn.bytes i;
  after : (i : ℕ) → l.first + length l.numbers ≤ i → item l.bytes i ≡ item l.fn.bytes i;
}
