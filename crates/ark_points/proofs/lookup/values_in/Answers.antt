use Rattle.std.proofs.Common.{sym, subst, ◌∙◌}
use Rattle.std.proofs.lemmas.Option.{IfSome_then}
use Rattle.std.proofs.lemmas.Result.{IfOk-weaker}
use Rattle.ark_math_domains.specs.Points.{AreValues}
use Rattle.ark_math.specs.Univariate.{IsValue, of_list}
use Rattle.ark_points.proofs.lookup.values_in.Goals as goal

pub returns-clause-values : goal.returns-clause-values
returns-clause-values g c =
    let K = g.F.Field.field in
    let p = of_list K c.args.polynomial.now in
    let all = c.in_ok-all.all in
    let A = subst (λ d. AreValues K (g.D.EvaluationDomain.domain d) p all.evals) (sym c.in_ok-all.ensures.domain) c.in_ok-all.ensures.values in
    let Z = subst (λ x. IsValue K p x c.in_ok-at_zero.at_zero) (c.zero.ensures ∙ g.met.F.Field.zero_law) c.in_ok-at_zero.ensures.value in
    IfOk-weaker c.looked_up.result _ _ (λ found h. IfSome_then found h (λ v k. k p A Z)) c.looked_up.ensures.values
