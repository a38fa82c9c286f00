use Rattle.std.proofs.Common.{◌≡◌, length, sym, ap, ap₂, ◌∙◌, arith}
use Rattle.ark_math.specs.Field.{minus}
use Rattle.ark_math.specs.Univariate.{of_list}
use Rattle.ark_math.proofs.Lists.Lists.{written_back}
use Rattle.ark_univariate.proofs.evaluations.univariate.Evaluations.sub_assign.Goals as goal

pub returns-clause-evals : goal.returns-clause-evals
returns-clause-evals g c i =
    let K = g.F.Field.field in
    let mine : c.as_mut_slice.result.now ≡ c.args.self.now.evals = c.as_mut_slice.ensures.value ∙ ap (λ v. v.evals) c.self.view_is in
    let others : c.deref.result.now ≡ c.args.other.now.evals = c.deref.ensures.value ∙ ap (λ v. v.evals) c.other.view_is in
    ap (λ t. of_list K t i) (written_back c.subtract_each.new.coeffs _ _ (omega (arith, c.subtract_each.auto.coeffs, c.as_mut_slice.ensures.len)))
    ∙ ap (λ t. t i) c.subtract_each.ensures
    ∙ ap₂ (λ s t. (minus g.F.Field.field) (of_list K s i) (of_list K t i)) mine others

pub subtract_each-requires : goal.subtract_each-requires
subtract_each-requires g c =
    let domain = g.D.EvaluationDomain.domain in
    let same : length c.deref.result.now ≡ length c.as_mut_slice.result.now =
    ap length c.deref.ensures.value
    ∙ c.other.invariant
    ∙ ap (λ v. (domain v.domain).size) c.other.view_is
    ∙ sym (ap (λ d. d.size) c.requires)
    ∙ sym (ap (λ v. (domain v.domain).size) c.self.view_is)
    ∙ sym c.self.invariant
    ∙ sym (ap length c.as_mut_slice.ensures.value) in
    omega (arith, same)

pub invariant_of-self : goal.invariant_of-self
invariant_of-self g c =
    ap length (written_back c.subtract_each.new.coeffs _ _ (omega (arith, c.subtract_each.auto.coeffs, c.as_mut_slice.ensures.len)))
    ∙ c.subtract_each.auto.coeffs
    ∙ ap length c.as_mut_slice.ensures.value
    ∙ c.self.invariant
