use Rattle.std.proofs.Common.{◌≡◌, suc, ◌∙◌, ap, ap₂, arith}
use Rattle.ark_bit_reversed.specs.Blocks.{element_of}
use Rattle.ark_math.proofs.Numbers.PowersOfTwo.{pow_twice}
use Rattle.rs_code.specs.Locator.{locator_at}
use Rattle.rs_code.proofs.turns.values_of.Goals as goal

pub values_over-requires-4-clause-power : goal.values_over-requires-4-clause-power
values_over-requires-4-clause-power g c =
    let l = c.requires.power.0 in
    (suc l, omega (arith, c.size-n.ensures.size, c.requires.size, c.requires.power.1, pow_twice l))

pub returns-clause-values : goal.returns-clause-values
returns-clause-values g c =
    let K = g.F.Field.field in
    let x = element_of K c.args.table.now in
    let is = c.sorted.view_is in
    let scale : c.mul-none_scale.result ≡ K.times c.args.sorted.now.kept_scale c.args.inverse =
    g.met.F.Field.mul_law _ _ _ c.mul-none_scale.ensures ∙ ap (λ k. K.times k c.args.inverse) (ap (λ r. r.kept_scale) is) in
    record {
      one_is = λ i l. c.in_ok-values_over.ensures.values i (omega (arith, l, c.size-n.ensures.size, c.requires.size)) ∙ ap (λ rs. locator_at K rs (x i)) (c.deref.ensures.value ∙ ap (λ r. r.one) is);
      two_is = λ i l. c.in_ok-values_over-2.ensures.values i (omega (arith, l, c.size-n.ensures.size, c.requires.size)) ∙ ap (λ rs. locator_at K rs (x i)) (c.deref-2.ensures.value ∙ ap (λ r. r.two) is);
      three_is = λ i l. c.in_ok-values_over-3.ensures.values i (omega (arith, l, c.size-n.ensures.size, c.requires.size)) ∙ ap (λ rs. locator_at K rs (x i)) (c.deref-3.ensures.value ∙ ap (λ r. r.three) is);
      opposite_is = λ i l. c.in_ok-values_over-4.ensures.values i (omega (arith, l, c.size-n.ensures.size, c.requires.size)) ∙ ap (λ rs. locator_at K rs (x i)) (c.deref-4.ensures.value ∙ ap (λ r. r.opposite) is);
      all_is = λ i l. c.in_ok-scaled_values.ensures.values i l ∙ ap₂ (λ rs k. K.times (locator_at K rs (x i)) k) (c.deref-5.ensures.value ∙ ap (λ r. r.all) is) (ap (λ r. r.erased_scale) is);
      none_is = λ i l. c.in_ok-scaled_values-2.ensures.values i l ∙ ap₂ (λ rs k. K.times (locator_at K rs (x i)) k) (c.deref-6.ensures.value ∙ ap (λ r. r.none) is) scale;
    }
