use Rattle.std.proofs.Common.{length, ◌+◌}
use Rattle.ark_math.specs.Univariate.{of_pairs, added, scaled}
use Rattle.ark_coeffs.proofs.SparseSums.{IsLeft}
use Rattle.ark_coeffs.specs.Multiples.{factor_of}
use Rattle.ark_coeffs.proofs.sparse.sum_with_multiple.Given as goal

abbrev pub invariant-loop-degree : goal.invariant-loop-degree
invariant-loop-degree g l =
    let K = g.F.Field.field in
    IsLeft K g.met.F.Field.field_laws (added K (of_pairs K l.fn.left) (scaled K (factor_of K l.multiple) (of_pairs K l.fn.right))) (factor_of K l.multiple) l.sum.items l.left l.right

abbrev pub decreases-loop-degree : goal.decreases-loop-degree
decreases-loop-degree g l = length l.left + length l.right
