use Rattle.std.proofs.Common.{ap, ◌∙◌}
use Rattle.ark_math.specs.Univariate.{of_pairs, scaled}
use Rattle.ark_univariate.proofs.polynomial.univariate.sparse.SparsePolynomial.mul_scalar.Goals as goal

pub returns-clause-multiple : goal.returns-clause-multiple
returns-clause-multiple g c =
    let K = g.F.Field.field in
    c.in_ok-scaled_terms.ensures.multiple
    ∙ ap (λ a. scaled K c.args.factor (of_pairs K a)) (c.deref.ensures.value ∙ c.self.view_is)
