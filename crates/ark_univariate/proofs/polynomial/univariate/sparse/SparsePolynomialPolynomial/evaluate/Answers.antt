use Rattle.std.proofs.Common.{subst, ◌∙◌}
use Rattle.ark_math.specs.Univariate.{of_pairs, IsValue}
use Rattle.ark_univariate.proofs.polynomial.univariate.sparse.SparsePolynomialPolynomial.evaluate.Goals as goal

pub returns-clause-value : goal.returns-clause-value
returns-clause-value g c =
    let K = g.F.Field.field in
    subst (λ xs. IsValue K (of_pairs K xs) c.args.point.now c.value_of_terms.result) (c.deref.ensures.value ∙ c.self.view_is) c.value_of_terms.ensures
