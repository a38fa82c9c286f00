use Rattle.ark_math.specs.Univariate.{of_list}
use Rattle.ark_math_polynomials.proofs.Polynomials.Binomials.{IsCarried}
use Rattle.ark_coeffs.proofs.dense.divide_by_binomial.Given as goal

abbrev pub invariant-loop-i : goal.invariant-loop-i
invariant-loop-i g l =
    let K = g.F.Field.field in
    IsCarried K l.n l.constant l.i (of_list K l.initial.coeffs) (of_list K l.coeffs)
