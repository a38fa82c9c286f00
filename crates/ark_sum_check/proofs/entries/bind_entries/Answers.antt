use Rattle.std.proofs.Common.{◌≡◌, length, take, sym, ap, subst, ◌∙◌, arith}
use Rattle.ark_math.proofs.Lists.Lists.{written_back}
use Rattle.ark_sum_check.specs.Provers.{AreRising}
use Rattle.ark_sum_check.proofs.entries.bind_entries.Goals as goal

pub returns-clause-rising : goal.returns-clause-rising
returns-clause-rising g c = λ h.
    let ys = c.bind_in_place-kept.new.entries in
    let k = c.bind_in_place-kept.result in
    let kept : length ys ≡ length c.as_mut_slice.result.now = omega (arith, c.bind_in_place-kept.auto.entries) in
    subst (λ us. AreRising us) (sym (c.truncate.ensures.items ∙ ap (take k) (written_back ys _ _ (omega (arith, kept, c.as_mut_slice.ensures.len)))))
    (c.bind_in_place-kept.ensures.rising (subst (λ us. AreRising us) (sym c.as_mut_slice.ensures.value) h))
