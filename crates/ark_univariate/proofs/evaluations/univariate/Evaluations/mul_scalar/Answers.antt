use Rattle.std.proofs.Common.{◌≡◌, length, ap, ◌∙◌, arith}
use Rattle.ark_math.specs.Univariate.{of_list}
use Rattle.ark_math.proofs.Lists.Lists.{written_back}
use Rattle.ark_univariate.proofs.evaluations.univariate.Evaluations.mul_scalar.Goals as goal

pub returns-clause-evals : goal.returns-clause-evals
returns-clause-evals g c i =
    let K = g.F.Field.field in
    let same : c.as_mut_slice.result.now ≡ c.args.self.now.evals =
    c.as_mut_slice.ensures.value ∙ c.in_ok-evals.ensures.items ∙ c.deref.ensures.value ∙ ap (λ v. v.evals) c.self.view_is in
    ap (λ t. of_list K t i) (written_back c.scale_each.new.coeffs _ _ (omega (arith, c.scale_each.auto.coeffs, c.as_mut_slice.ensures.len)))
    ∙ ap (λ t. t i) c.scale_each.ensures
    ∙ ap (λ t. K.times c.args.factor (of_list K t i)) same

pub invariant_of-result : goal.invariant_of-result
invariant_of-result g c =
    ap length (written_back c.scale_each.new.coeffs _ _ (omega (arith, c.scale_each.auto.coeffs, c.as_mut_slice.ensures.len)))
    ∙ c.scale_each.auto.coeffs
    ∙ ap length (c.as_mut_slice.ensures.value ∙ c.in_ok-evals.ensures.items ∙ c.deref.ensures.value)
    ∙ c.self.invariant
