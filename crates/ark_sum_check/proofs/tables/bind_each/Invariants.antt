use Rattle.ark_sum_check.proofs.BoundTables.{AreBound}
use Rattle.ark_sum_check.proofs.tables.bind_each.Given as goal

abbrev pub invariant-loop-i : goal.invariant-loop-i
invariant-loop-i g l = AreBound g.F.Field.field l.x l.half l.initial.tables l.i l.tables
