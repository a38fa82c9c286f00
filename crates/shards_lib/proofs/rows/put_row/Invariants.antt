use Rattle.std.proofs.Common.{◌≡◌, ℕ, ◌<◌, get_or}
use Rattle.ark_rows.specs.Row.{lanes}
use Rattle.shards_lib.proofs.rows.put_row.Given as goal

abbrev pub invariant-loop-t : goal.invariant-loop-t
invariant-loop-t g l = (t : ℕ) → t < l.t → get_or l.numbers t 0 ≡ g.F.NumberField.number (lanes g.F.Field.field l.row t)
