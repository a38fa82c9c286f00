use Rattle.std.proofs.Common.{ap₂, ◌∙◌}
use Rattle.ark_math.specs.Univariate.{difference, of_list, of_pairs}
use Rattle.ark_math.proofs.Outcomes.Results.{IfOk_more}
use Rattle.ark_univariate.proofs.polynomial.univariate.dense.DensePolynomial.sub_assign_sparse.Goals as goal

pub returns-clause-difference : goal.returns-clause-difference
returns-clause-difference g c =
    let K = g.F.Field.field in
    IfOk_more c.add_terms_trimmed.result
    (λ _ e. e ∙ ap₂ (λ a b. difference K (of_list K a) (of_pairs K b)) c.self.view_is c.coeffs.ensures.same)
    c.add_terms_trimmed.ensures.sum
