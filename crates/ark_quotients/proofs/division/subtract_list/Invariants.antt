use Rattle.std.proofs.Common.{◌≡◌}
use Rattle.ark_math.specs.Univariate.{of_list, difference, monomial, product}
use Rattle.ark_math_polynomials.proofs.Polynomials.UnivariateLoops.{cut}
use Rattle.ark_quotients.proofs.division.subtract_list.Given as goal

abbrev pub invariant-loop-i : goal.invariant-loop-i
invariant-loop-i g l =
    let K = g.F.Field.field in
    of_list K l.coeffs ≡ difference K (of_list K l.initial.coeffs) (product K (monomial K l.places l.fn.factor) (cut K l.i (of_list K l.other)))
