use Rattle.std.proofs.Common.{◌≡◌, ℕ, ◌<◌, get_or}
use Rattle.ark_rows.proofs.row.Row.from_slice.Given as goal

abbrev pub invariant-loop-i : goal.invariant-loop-i
invariant-loop-i g l = (k : ℕ) (d : g.row.F.Denot) → k < l.i → get_or l.row.items k d ≡ get_or l.items k d
