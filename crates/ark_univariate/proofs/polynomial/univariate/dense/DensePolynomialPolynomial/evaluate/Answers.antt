use Rattle.std.proofs.Common.{subst, ◌∙◌}
use Rattle.ark_math.specs.Univariate.{of_list, IsValue}
use Rattle.ark_univariate.proofs.polynomial.univariate.dense.DensePolynomialPolynomial.evaluate.Goals as goal

pub returns-clause-value : goal.returns-clause-value
returns-clause-value g c =
    let K = g.F.Field.field in
    subst (λ xs. IsValue K (of_list K xs) c.args.point.now c.value_at.result) (c.deref.ensures.value ∙ c.self.view_is) c.value_at.ensures
