use Rattle.std.proofs.Common.{◌≡◌}
use Rattle.ark_math.specs.Univariate.{of_list}
use Rattle.ark_math_polynomials.proofs.Polynomials.UnivariateLoops.{zipped}
use Rattle.ark_coeffs.proofs.dense.add_scaled.Given as goal

abbrev pub invariant-loop-i : goal.invariant-loop-i
invariant-loop-i g l =
    let K = g.F.Field.field in
    of_list K l.coeffs ≡ zipped (λ x y. K.plus x (K.times l.factor y)) l.i (of_list K l.initial.coeffs) (of_list K l.other)
