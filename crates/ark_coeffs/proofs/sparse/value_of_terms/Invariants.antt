use Rattle.std.proofs.Common.{take}
use Rattle.ark_math.specs.Univariate.{of_pairs, IsValue}
use Rattle.ark_coeffs.proofs.sparse.value_of_terms.Given as goal

abbrev pub invariant-loop-i : goal.invariant-loop-i
invariant-loop-i g l =
    let K = g.F.Field.field in
    IsValue K (of_pairs K (take l.i l.terms)) l.point l.value
