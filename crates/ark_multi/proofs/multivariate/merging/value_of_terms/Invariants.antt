use Rattle.std.proofs.Common.{◌≡◌, take}
use Rattle.ark_math_variables.specs.Multivariate.{sum_at}
use Rattle.ark_multi.specs.TermLists.{keyed}
use Rattle.ark_multi.proofs.multivariate.merging.value_of_terms.Given as goal

abbrev pub invariant-loop-term : goal.invariant-loop-term
invariant-loop-term g l = l.value ≡ sum_at g.F.Field.field (keyed g.T.Term.listed (take l.term-index l.terms)) l.point
