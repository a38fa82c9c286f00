use Rattle.std.proofs.Common.{◌+◌}
use Rattle.ark_tables.proofs.TableLists.{IsLeft}
use Rattle.ark_tables.proofs.tables.fixed_table.Given as goal

abbrev pub invariant-loop-x : goal.invariant-loop-x
invariant-loop-x g l = IsLeft g.F.Field.field l.table l.point (l.x-index + 1) l.left.items
