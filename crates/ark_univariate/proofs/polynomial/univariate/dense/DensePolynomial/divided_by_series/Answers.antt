use Rattle.std.proofs.Common.{sym, ap, subst, ◌∙◌}
use Rattle.ark_math.specs.Univariate.{of_list, added, opposite, IsQuotient}
use Rattle.ark_univariate.proofs.polynomial.univariate.dense.DensePolynomial.divided_by_series.Goals as goal

pub returns-clause-division : goal.returns-clause-division
returns-clause-division g c =
    let K = g.F.Field.field in
    let a = of_list K c.args.self.now in
    let d = of_list K c.args.divisor.now in
    subst (IsQuotient K a d (of_list K c.in_ok-quotient.quotient))
    (sym (c.in_ok-remainder.ensures.difference
    ∙ ap (λ t. added K a (opposite K t))
    c.in_ok-product.ensures.product))
    c.in_ok-quotient.ensures.quotient
