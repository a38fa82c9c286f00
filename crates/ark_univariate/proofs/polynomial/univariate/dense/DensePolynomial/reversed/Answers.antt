use Rattle.std.proofs.Common.{◌-◌, sym, ap, ◌∙◌, arith}
use Rattle.ark_math.specs.Univariate.{of_list}
use Rattle.ark_quotients.proofs.Backwards.{backwards-inside}
use Rattle.ark_math_polynomials.proofs.Polynomials.UnivariateLists.{of_list-past}
use Rattle.ark_univariate.proofs.polynomial.univariate.dense.DensePolynomial.reversed.Goals as goal

pub returns-clause-same : goal.returns-clause-same
returns-clause-same g c i l =
    let K = g.F.Field.field in
    let few = c.requires in
    ap (λ t. t i) c.from_coefficients_vec.ensures.coefficients
    ∙ c.in_ok-coeffs.ensures.same i l
    ∙ ap (λ t. of_list K t (c.args.degree - i)) c.coeffs.ensures.same
    ∙ sym (backwards-inside K c.args.degree (of_list K c.args.self.now) i (omega (arith, l, few)))

pub returns-clause-below : goal.returns-clause-below
returns-clause-below g c i l =
    let len = c.in_ok-coeffs.ensures.len in
    ap (λ t. t i) c.from_coefficients_vec.ensures.coefficients
    ∙ of_list-past g.F.Field.field c.in_ok-coeffs.coeffs.items i (omega (arith, l, len))
