use Rattle.std.proofs.Common.{ap₂, ◌∙◌}
use Rattle.ark_math.specs.Univariate.{of_pairs, added, scaled}
use Rattle.ark_univariate.proofs.polynomial.univariate.sparse.SparsePolynomialPolynomial.add_assign_scaled.Goals as goal

pub returns-clause-sum : goal.returns-clause-sum
returns-clause-sum g c =
    let K = g.F.Field.field in
    c.in_ok-self-inside.ensures.sum
    ∙ ap₂ (λ a b. added K (of_pairs K a) (scaled K c.args.factor (of_pairs K b))) (c.deref.ensures.value ∙ c.self.view_is) (c.deref-2.ensures.value ∙ c.other.view_is)
