use Rattle.std.proofs.Common.{sym, subst}
use Rattle.std.proofs.lemmas.Result.{IfOk-weaker}
use Rattle.ark_math_domains.specs.Points.{AreValues}
use Rattle.ark_math.specs.Univariate.{of_pairs}
use Rattle.ark_univariate.specs.DenseOrSparse.{denoted}
use Rattle.ark_univariate.proofs.polynomial.univariate.dense_or_sparse.DenseOrSparsePolynomial.evaluate_over_domain.Goals as goal

pub returns-in-SPolynomial-clause-values : goal.returns-in-SPolynomial-clause-values
returns-in-SPolynomial-clause-values g c =
    let K = g.F.Field.field in
    let d = g.D.EvaluationDomain.domain c.args.domain in
    IfOk-weaker c.evaluate_over_domain_by_ref.result (λ v. AreValues K d (of_pairs K c.deref.result.now) v.evals) _
    (λ v h. subst (λ s. AreValues K d (denoted K s) v.evals) (sym c.in-SPolynomial.is) (subst (λ s. AreValues K d (of_pairs K s) v.evals) c.deref.ensures h))
    c.evaluate_over_domain_by_ref.ensures.values
