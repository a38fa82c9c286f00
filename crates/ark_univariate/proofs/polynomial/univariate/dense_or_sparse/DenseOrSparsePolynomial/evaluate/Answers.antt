use Rattle.std.proofs.Common.{◌∙◌, sym, ap, subst}
use Rattle.ark_math.specs.Univariate.{IsValue}
use Rattle.ark_quotients.specs.Divisors.{denoted as coefficients_denote}
use Rattle.ark_univariate.proofs.polynomial.univariate.dense_or_sparse.DenseOrSparsePolynomial.evaluate.Goals as goal

pub returns-in-Terms : goal.returns-in-Terms
returns-in-Terms g c =
    let K = g.F.Field.field in
    subst (λ a. IsValue K a c.args.point.now c.value_of_terms.result)
    (ap (coefficients_denote K) (sym c.in-Terms.is) ∙ c.coefficients.ensures.same) c.value_of_terms.ensures

pub returns-in-Listed : goal.returns-in-Listed
returns-in-Listed g c =
    let K = g.F.Field.field in
    subst (λ a. IsValue K a c.args.point.now c.value_at.result)
    (ap (coefficients_denote K) (sym c.in-Listed.is) ∙ c.coefficients.ensures.same) c.value_at.ensures
