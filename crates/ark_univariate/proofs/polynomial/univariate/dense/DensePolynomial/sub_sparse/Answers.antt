use Rattle.std.proofs.Common.{ap₂, ◌∙◌}
use Rattle.ark_math.specs.Univariate.{difference, of_list, of_pairs}
use Rattle.ark_univariate.proofs.polynomial.univariate.dense.DensePolynomial.sub_sparse.Goals as goal

pub returns-clause-difference : goal.returns-clause-difference
returns-clause-difference g c =
    let K = g.F.Field.field in
    c.from_coefficients_vec.ensures.coefficients
    ∙ c.in_ok-difference.ensures.sum
    ∙ ap₂ (λ a b. difference K (of_list K a) (of_pairs K b)) (c.deref.ensures.value ∙ c.self.view_is) c.coeffs.ensures.same
