use Rattle.std.proofs.Common.{◌≡◌, sym, ap, ap₂, ◌∙◌, ◌==◌}
use Rattle.ark_math_domains.specs.Points.{vanishing}
use Rattle.ark_math.specs.Univariate.{of_list, nothing, product}
use Rattle.ark_math_polynomials.proofs.Polynomials.Binomials.{binomial}
use Rattle.ark_math_polynomials.proofs.Polynomials.UnivariateLists.{trimmed_none_Decides}
use Rattle.ark_math_polynomials.proofs.Polynomials.UnivariateProducts.{nothing-product}
use Rattle.ark_math.proofs.Outcomes.Results.{IfOk_more}
use Rattle.ark_univariate.proofs.polynomial.univariate.dense.DensePolynomial.mul_by_vanishing_poly.Goals as goal

pub returns-then-is_empty-clause-product : goal.returns-then-is_empty-clause-product
returns-then-is_empty-clause-product g c =
    let K = g.F.Field.field in
    let v = vanishing K (g.D.EvaluationDomain.domain c.args.domain) in
    let p = c.self.inside.coeffs in
    let none : of_list K p.items ≡ nothing K =
    (trimmed_none_Decides K p.items c.is_empty.result c.self.invariant (c.is_empty.ensures ∙ ap (λ n. n == 0) p.ok.0)).0 c.if-is_empty.true in
    rw (← c.self.view_is) (IfOk_more c.zero.result (λ p e. e ∙ sym (ap (λ t. product K t v) none ∙ nothing-product K g.met.F.Field.field_laws v)) c.zero.ensures.zero)

pub returns-clause-product : goal.returns-clause-product
returns-clause-product g c =
    let K = g.F.Field.field in
    c.from_coefficients_vec.ensures.coefficients
    ∙ c.in_ok-coeffs.ensures
    ∙ ap₂ (λ s t. product K (of_list K s) t) (c.deref.ensures.value ∙ c.self.view_is) (ap₂ (binomial K) c.size-n.ensures c.coset_offset_pow_size-constant.ensures)
