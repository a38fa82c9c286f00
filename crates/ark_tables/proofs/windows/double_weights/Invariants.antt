use Rattle.ark_tables.proofs.Doubled.{IsDoubling}
use Rattle.ark_tables.proofs.windows.double_weights.Given as goal

abbrev pub invariant-loop-i : goal.invariant-loop-i
invariant-loop-i g l = IsDoubling g.F.Field.field l.item l.initial.weights.items l.weights.items l.i
