use Rattle.ark_sum_check.proofs.Embeddings.{AreBoundWithin}
use Rattle.ark_sum_check.proofs.prover.within.bound_tables.Given as goal

abbrev pub invariant-loop-i : goal.invariant-loop-i
invariant-loop-i g l = AreBoundWithin g.F.Field.field g.E.Field.field g.E.ExtensionOf.within l.x l.tables l.i l.left.items
