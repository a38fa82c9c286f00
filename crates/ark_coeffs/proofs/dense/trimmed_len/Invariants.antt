use Rattle.ark_math.specs.Univariate.{of_list, IsBelow}
use Rattle.ark_coeffs.proofs.dense.trimmed_len.Given as goal

abbrev pub invariant-loop-i : goal.invariant-loop-i
invariant-loop-i g l =
    let K = g.F.Field.field in
    IsBelow K l.i (of_list K l.coeffs)
