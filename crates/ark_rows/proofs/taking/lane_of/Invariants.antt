use Rattle.std.proofs.Common.{◌≡◌, map, take}
use Rattle.ark_rows.specs.Row.{lanes}
use Rattle.ark_rows.specs.Lanewise.{lane}
use Rattle.ark_rows.proofs.taking.lane_of.Given as goal

abbrev pub invariant-loop-row : goal.invariant-loop-row
invariant-loop-row g l = l.elements.items ≡ lane l.i (map (lanes g.F.Field.field) (take l.row-index l.rows))
