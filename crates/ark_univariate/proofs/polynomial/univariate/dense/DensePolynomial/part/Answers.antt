use Rattle.std.proofs.Common.{◌+◌, ap, ◌∙◌, arith}
use Rattle.ark_math.specs.Univariate.{of_list}
use Rattle.ark_math_polynomials.proofs.Polynomials.UnivariateLists.{of_list-past}
use Rattle.ark_univariate.proofs.polynomial.univariate.dense.DensePolynomial.part.Goals as goal

pub returns-clause-same : goal.returns-clause-same
returns-clause-same g c i l =
    ap (λ t. t i) c.from_coefficients_vec.ensures.coefficients
    ∙ c.in_ok-coeffs.ensures.same i l
    ∙ ap (λ t. of_list g.F.Field.field t (c.args.start + i)) c.coeffs.ensures.same

pub returns-clause-below : goal.returns-clause-below
returns-clause-below g c i l =
    let len = c.in_ok-coeffs.ensures.len in
    ap (λ t. t i) c.from_coefficients_vec.ensures.coefficients
    ∙ of_list-past g.F.Field.field c.in_ok-coeffs.coeffs.items i (omega (arith, l, len))
