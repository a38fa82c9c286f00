use Rattle.std.proofs.Common.{length, ◌+◌}
use Rattle.ark_math_variables.specs.Multivariate.{of_listed}
use Rattle.ark_math.specs.Univariate.{added, scaled}
use Rattle.ark_coeffs.specs.Multiples.{factor_of}
use Rattle.ark_multi.proofs.SortedTerms.{IsLeft, term_order}
use Rattle.ark_multi.proofs.multivariate.merging.sum_of_terms.Given as goal

abbrev pub invariant-loop-least : goal.invariant-loop-least
invariant-loop-least g l =
    let K = g.F.Field.field in
    let listed = g.T.Term.listed in
    IsLeft K g.met.F.Field.field_laws (term_order g.met.T.Ord.total g.met.T.Ord.matches_eq g.met.T.Term.equality_law) (added K (of_listed K listed l.fn.left) (scaled K (factor_of K l.multiple) (of_listed K listed l.fn.right))) (factor_of K l.multiple) l.sum.items l.left l.right

abbrev pub decreases-loop-least : goal.decreases-loop-least
decreases-loop-least g l = length l.left + length l.right
