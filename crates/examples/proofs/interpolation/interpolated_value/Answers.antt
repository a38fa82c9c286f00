use Rattle.std.proofs.Common.{sym, subst}
use Rattle.std.proofs.lemmas.Result.{IfOk-weaker}
use Rattle.ark_math_domains.specs.Points.{AreValues}
use Rattle.ark_math.specs.Univariate.{IsBelow, IsValue}
use Rattle.examples.proofs.interpolation.interpolated_value.Goals as goal

-- the polynomial that `interpolate` gives is the only one
pub returns-clause-value : goal.returns-clause-value
returns-clause-value g c =
    let K = g.F.Field.field in
    let D = g.D.EvaluationDomain.domain in
    let v = c.from_vec_and_domain.result in
    let over = c.from_vec_and_domain.ensures.domain in
    let same = c.from_vec_and_domain.ensures.evals in
    IfOk-weaker c.evaluate.result _ _
    (λ y h p below values. subst (λ q. IsValue K q c.args.point y)
    (sym (c.in_ok-polynomial.ensures.only p (subst (λ d. IsBelow K (D d).size p) (sym over) below)
    (subst (λ d. AreValues K (D d) p v.evals) (sym over) (subst (AreValues K (D c.args.domain) p) (sym same) values)))) h)
    c.evaluate.ensures.value
