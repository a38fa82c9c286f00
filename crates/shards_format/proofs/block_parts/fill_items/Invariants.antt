use Rattle.std.proofs.Common.{◌≡◌, ℕ, ◌<◌, ◌≤◌, get_or}
use Rattle.shards_format.specs.Stripes.{item}
use Rattle.shards_format.proofs.block_parts.fill_items.Given as goal

abbrev pub invariant-loop-j : goal.invariant-loop-j
invariant-loop-j l = record {
  items_are : (i : ℕ) → i < l.j → get_or l.items i 0 ≡ item l.bytes i;
  small : (i : ℕ) → i < l.j → get_or l.items i 0 ≤ 65536;
}
