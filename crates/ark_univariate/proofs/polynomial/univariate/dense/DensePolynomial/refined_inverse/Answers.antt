use Rattle.std.proofs.Common.{◌+◌, ap, ◌∙◌, arith}
use Rattle.ark_math.specs.Univariate.{of_list, opposite}
use Rattle.ark_quotients.proofs.PowerSeries.{newton_step}
use Rattle.ark_math_polynomials.proofs.Polynomials.UnivariateLists.{of_list-past}
use Rattle.ark_univariate.proofs.polynomial.univariate.dense.DensePolynomial.refined_inverse.Goals as goal

pub returns-clause-inverse : goal.returns-clause-inverse
returns-clause-inverse g c =
    let K = g.F.Field.field in
    let inverse = of_list K c.args.inverse.now in
    let is = c.from_coefficients_vec.ensures.coefficients in
    newton_step K g.met.F.Field.field_laws c.args.known c.args.len (of_list K c.args.self.now) (of_list K c.in_ok-part.field-0)
    (of_list K c.in_ok-whole.whole) inverse (of_list K c.in_ok-part-2.field-0) (of_list K c.in_ok-correction.correction) (of_list K c.from_coefficients_vec.result)
    c.requires.positive c.requires.more c.requires.most c.requires.below c.requires.inverse
    c.in_ok-part.ensures.same
    c.in_ok-whole.ensures.product
    c.in_ok-part-2.ensures.same
    c.in_ok-correction.ensures.product
    (λ i l. ap (λ t. t i) is ∙ c.in_ok-coeffs.ensures.kept i l ∙ ap (λ t. of_list K t i) c.coeffs.ensures.same)
    (λ i l. ap (λ t. t (c.args.known + i)) is ∙ c.in_ok-coeffs.ensures.rest i l ∙ ap (λ t. opposite K (of_list K t) i) c.coeffs-2.ensures.same)

pub returns-clause-below : goal.returns-clause-below
returns-clause-below g c i l =
    let len = c.in_ok-coeffs.ensures.len in
    ap (λ t. t i) c.from_coefficients_vec.ensures.coefficients
    ∙ of_list-past g.F.Field.field c.in_ok-coeffs.coeffs.items i (omega (arith, l, len))
