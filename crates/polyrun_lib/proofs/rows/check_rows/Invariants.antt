use Rattle.std.proofs.Common.{map}
use Rattle.polyrun_lib.specs.Written.{writer}
use Rattle.polyrun_lib.proofs.Checking.{IsUnderWay}
use Rattle.polyrun_lib.proofs.rows.check_rows.Given as goal

abbrev pub invariant-loop-i : goal.invariant-loop-i
invariant-loop-i g l =
    IsUnderWay l.field (map g.R.Checked.shown l.rows) l.i l.status (writer g.W.Sink l.fn.out) (writer g.W.Sink l.out)
