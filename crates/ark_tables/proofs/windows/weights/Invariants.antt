use Rattle.std.proofs.Common.{take}
use Rattle.ark_tables.proofs.Doubled.{AreWeights}
use Rattle.ark_tables.proofs.windows.weights.Given as goal

abbrev pub invariant-loop-i : goal.invariant-loop-i
invariant-loop-i g l = AreWeights g.F.Field.field (take l.i l.point) l.weights.items
