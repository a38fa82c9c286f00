use Rattle.std.proofs.Common.{◌≡◌, ap, ap₂, ◌∙◌}
use Rattle.ark_math.specs.Univariate.{of_pairs, added, scaled}
use Rattle.ark_math_polynomials.proofs.Polynomials.Univariate.{coefficients_are_module}
use Rattle.ark_univariate.proofs.polynomial.univariate.sparse.SparsePolynomialPolynomial.add.Goals as goal

pub returns-clause-sum : goal.returns-clause-sum
returns-clause-sum g c =
    let K = g.F.Field.field in
    let F = g.met.F.Field in
    let other = of_pairs K c.args.other.now in
    let once : scaled K c.one.result other ≡ other =
    ap (λ t. scaled K t other) (c.one.ensures ∙ F.one_law) ∙ (coefficients_are_module K F.field_laws).one_scale other in
    c.in_ok-sum_of_terms.ensures.sum
    ∙ ap₂ (λ a b. added K (of_pairs K a) (scaled K c.one.result (of_pairs K b))) (c.deref.ensures.value ∙ c.self.view_is) (c.deref-2.ensures.value ∙ c.other.view_is)
    ∙ ap (added K (of_pairs K c.args.self.now)) once
