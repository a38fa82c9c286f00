use Rattle.std.proofs.Common.{◌≡◌, length, subst₂, sym, ap, ◌∙◌, arith}
use Rattle.ark_math.specs.Univariate.{of_list}
use Rattle.ark_math.specs.Field.{IsPlaceQuotient}
use Rattle.ark_math.proofs.Lists.Lists.{written_back}
use Rattle.ark_coeffs.proofs.progressions.inverted_progression_less.Goals as goal

pub returns-clause-len : goal.returns-clause-len
returns-clause-len g c =
    ap length (written_back c.batch_inversion.new.items _ _ (omega (arith, c.batch_inversion.auto.items, c.as_mut_slice.ensures.len)))
    ∙ c.batch_inversion.auto.items
    ∙ ap length c.as_mut_slice.ensures.value
    ∙ c.in_ok-items.ensures.len

pub returns-clause-inverses : goal.returns-clause-inverses
returns-clause-inverses g c i l =
    let K = g.F.Field.field in
    let items = c.as_mut_slice.result.now in
    let written = written_back c.batch_inversion.new.items _ _ (omega (arith, c.batch_inversion.auto.items, c.as_mut_slice.ensures.len)) in
    let size : length items ≡ c.args.size = ap length c.as_mut_slice.ensures.value ∙ c.in_ok-items.ensures.len in
    subst₂ (λ y w. IsPlaceQuotient K K.one y (of_list K w i))
    (ap (λ t. of_list K t i) c.as_mut_slice.ensures.value ∙ c.in_ok-items.ensures.items i l)
    (sym written)
    (c.in_ok-batch_inversion.ensures.inverses i (omega (arith, l, size)))
