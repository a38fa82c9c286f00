use Rattle.ark_coeffs.proofs.SortedPairs.{IsMerged}
use Rattle.ark_coeffs.proofs.sparse.merged_terms.Given as goal

abbrev pub invariant-loop-i : goal.invariant-loop-i
invariant-loop-i g l = IsMerged g.F.Field.field g.met.F.Field.field_laws l.terms l.merged.items l.i l.degree l.sum
