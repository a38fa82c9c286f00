use Rattle.std.proofs.Common.{◌≡◌, ℕ, ◌<◌, ◌≤◌, get_or}
use Rattle.shards_format.specs.Stripes.{item}
use Rattle.shards_format.proofs.parts.read_plain.Given as goal

abbrev pub invariant-loop-s : goal.invariant-loop-s
invariant-loop-s l = record {
  numbers : (i : ℕ) → i < l.s → get_or l.numbers i 0 ≡ item l.part i;
  fits : (i : ℕ) → i < l.s → get_or l.numbers i 0 ≤ 65536;
}
