use Rattle.std.proofs.Common.{subst}
use Rattle.std.proofs.lemmas.Result.{IfOk-weaker}
use Rattle.ark_math_domains.specs.Points.{AreValues}
use Rattle.examples.proofs.sparse.values_of_terms.Goals as goal

-- the polynomial denotes the sum of the terms
pub returns-clause-values : goal.returns-clause-values
returns-clause-values g c =
    let K = g.F.Field.field in
    let D = g.D.EvaluationDomain.domain in
    IfOk-weaker c.evaluate_over_domain_by_ref.result _ _
    (λ v h. subst (λ p. AreValues K (D c.args.domain) p v.evals) c.in_ok-polynomial.ensures.sum h)
    c.evaluate_over_domain_by_ref.ensures.values
