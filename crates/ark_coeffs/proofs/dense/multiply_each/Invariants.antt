use Rattle.std.proofs.Common.{◌≡◌}
use Rattle.ark_math.specs.Univariate.{of_list}
use Rattle.ark_math_polynomials.proofs.Polynomials.UnivariateLoops.{zipped}
use Rattle.ark_coeffs.proofs.dense.multiply_each.Given as goal

abbrev pub invariant-loop-i : goal.invariant-loop-i
invariant-loop-i g l =
    let K = g.F.Field.field in
    of_list K l.items ≡ zipped K.times l.i (of_list K l.initial.items) (of_list K l.other)
