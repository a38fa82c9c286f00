use Rattle.std.proofs.Common.{◌<◌, subst, sym, ap, ◌∙◌}
use Rattle.ark_math.specs.Univariate.{of_list}
use Rattle.ark_math.specs.Field.{IsPlaceQuotient}
use Rattle.ark_univariate.proofs.evaluations.univariate.Evaluations.div.Goals as goal

pub div_assign-requires : goal.div_assign-requires
div_assign-requires g c = ap (λ v. g.D.EvaluationDomain.domain v.domain) c.in_ok-quotient.ensures.cases ∙ c.requires

pub returns-clause-evals : goal.returns-clause-evals
returns-clause-evals g c i l =
    let K = g.F.Field.field in
    let same = c.in_ok-quotient.ensures.cases in
    subst (λ v. IsPlaceQuotient K (of_list K v.evals i) (of_list K c.args.other.now.evals i) (of_list K c.div_assign.new.self.evals i)) same
    (c.in_ok-div_assign.ensures.evals i (subst (λ v. i < (g.D.EvaluationDomain.domain v.domain).size) (sym same) l))

pub returns-clause-domain : goal.returns-clause-domain
returns-clause-domain g c = c.div_assign.ensures.domain ∙ ap (λ v. v.domain) c.in_ok-quotient.ensures.cases
