use Rattle.std.proofs.Common.{◌≡◌, ℕ, ◌<◌, ◌≤◌}
use Rattle.ark_math.specs.Field.{minus}
use Rattle.ark_rows.specs.Row.{lanes}
use Rattle.ark_rows.proofs.row.RowSubAssign.sub_assign.Given as goal

abbrev pub invariant-loop-i : goal.invariant-loop-i
invariant-loop-i g l =
    let K = g.F.Field.field in
    ((k : ℕ) → k < l.i → lanes K l.self k ≡ minus K (lanes K l.fn.self k) (lanes K l.fn.rhs k))
    × ((k : ℕ) → l.i ≤ k → lanes K l.self k ≡ lanes K l.fn.self k)
