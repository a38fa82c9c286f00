use Rattle.std.proofs.Common.{length}
use Rattle.ark_math_variables.specs.Multivariate.{of_listed}
use Rattle.ark_multi.proofs.SortedTerms.{IsGathering, term_order}
use Rattle.ark_multi.proofs.multivariate.merging.gathered_terms.Given as goal

abbrev pub invariant-loop-next : goal.invariant-loop-next
invariant-loop-next g l =
    let K = g.F.Field.field in
    IsGathering K g.met.F.Field.field_laws (term_order g.met.T.Ord.total g.met.T.Ord.matches_eq g.met.T.Term.equality_law) (of_listed K g.T.Term.listed l.fn.terms.items) l.gathered.items l.rest.items

abbrev pub decreases-loop-next : goal.decreases-loop-next
decreases-loop-next g l = length l.rest.items
