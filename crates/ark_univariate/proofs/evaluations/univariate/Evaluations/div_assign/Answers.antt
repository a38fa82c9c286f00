use Rattle.std.proofs.Common.{◌≡◌, length, subst, subst₂, sym, ap, ◌∙◌, arith}
use Rattle.std.proofs.lemmas.Result.{on_ok_weaker, on_err_weaker}
use Rattle.ark_math.specs.Univariate.{of_list}
use Rattle.ark_math.specs.Field.{IsPlaceQuotient}
use Rattle.ark_math.proofs.Lists.Lists.{written_back}
use Rattle.ark_univariate.proofs.evaluations.univariate.Evaluations.div_assign.Goals as goal

pub divide_each-requires : goal.divide_each-requires
divide_each-requires g c =
    let domain = g.D.EvaluationDomain.domain in
    ap length c.deref.ensures.value
    ∙ c.other.invariant
    ∙ ap (λ v. (domain v.domain).size) c.other.view_is
    ∙ sym (ap (λ d. d.size) c.requires)
    ∙ sym (ap (λ v. (domain v.domain).size) c.self.view_is)
    ∙ sym c.self.invariant
    ∙ sym (ap length c.as_mut_slice.ensures.value)

pub invariant_of-self : goal.invariant_of-self
invariant_of-self g c =
    ap length (written_back c.divide_each.new.items _ _ (omega (arith, c.divide_each.auto.items, c.as_mut_slice.ensures.len)))
    ∙ c.divide_each.auto.items
    ∙ ap length c.as_mut_slice.ensures.value
    ∙ c.self.invariant

pub returns-clause-evals : goal.returns-clause-evals
returns-clause-evals g c =
    let K = g.F.Field.field in
    let old = c.args.self.now.evals in
    let divisors = c.args.other.now.evals in
    let new = c.divide_each.new.items in
    let mine : c.as_mut_slice.result.now ≡ old = c.as_mut_slice.ensures.value ∙ ap (λ v. v.evals) c.self.view_is in
    let others : c.deref.result.now ≡ divisors = c.deref.ensures.value ∙ ap (λ v. v.evals) c.other.view_is in
    let size : length c.as_mut_slice.result.now ≡ (g.D.EvaluationDomain.domain c.args.self.now.domain).size =
    ap length c.as_mut_slice.ensures.value ∙ c.self.invariant ∙ ap (λ v. (g.D.EvaluationDomain.domain v.domain).size) c.self.view_is in
    on_ok_weaker c.divide_each.result
    (λ quotients i l.
    subst (λ t. IsPlaceQuotient K (of_list K old i) (of_list K divisors i) (of_list K t i))
    (sym (written_back new _ _ (omega (arith, c.divide_each.auto.items, c.as_mut_slice.ensures.len))))
    (subst₂ (λ a b. IsPlaceQuotient K (of_list K a i) (of_list K b i) (of_list K new i)) mine others (quotients i (omega (arith, l, size)))))
    c.divide_each.ensures.quotients

pub returns-clause-kept : goal.returns-clause-kept
returns-clause-kept g c =
    on_err_weaker c.divide_each.result
    (λ kept.
    written_back c.divide_each.new.items _ _ (omega (arith, c.divide_each.auto.items, c.as_mut_slice.ensures.len))
    ∙ kept
    ∙ c.as_mut_slice.ensures.value
    ∙ ap (λ v. v.evals) c.self.view_is)
    c.divide_each.ensures.kept
