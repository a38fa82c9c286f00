use Rattle.std.proofs.Common.{◌≡◌, ℕ, ◌<◌, ◌*◌, ◌+◌, get_or, length}
use Rattle.shards_lib.specs.Rows.{entry}
use Rattle.shards_lib.proofs.rows.put_rows.Given as goal

abbrev pub invariant-loop-b : goal.invariant-loop-b
invariant-loop-b g l = record {
  written : (b t : ℕ) → b < l.b → t < l.group.count → get_or l.numbers (b * l.group.all + (l.group.first + t)) 0 ≡ g.F.NumberField.number (entry g.F.Field.field l.rows (get_or l.places b 0) t);
  kept : (b s : ℕ) → b < length l.places → s < l.group.first → get_or l.numbers (b * l.group.all + s) 0 ≡ get_or l.initial.numbers (b * l.group.all + s) 0;
}
