use Rattle.std.proofs.Common.{◌≡◌, map, length, ◌/◌, ◌^◌, ◌<◌, ◌≤◌, sym, ap, subst, ◌∙◌}
use Rattle.ark_math.specs.Root.{HasOrder}
use Rattle.ark_math.proofs.Lists.Lists.{written_back}
use Rattle.ark_math.proofs.Domains.Sizes.{power_of_two, next_log, log_within}
use Rattle.ark_fft.proofs.Short.{mid_size, short_cost, short_transform}
use Rattle.ark_fft.proofs.domain.radix2.fft.degree_aware_fft_in_place.Goals as goal

pub short_in_order-requires-clause-within : goal.short_in_order-requires-clause-within
short_in_order-requires-clause-within g c =
    let t = c.args.coset.now in
    let len = c.len-len.result in
    let of_old : len ≡ length c.args.coeffs.now.items = c.len-len.ensures ∙ c.args.coeffs.now.ok.0 in
    let p = c.next_power_of_two.ensures in
    let e = c.ilog2-log_len.ensures in
    log_within t.size len c.ilog2-log_len.result t.log_size_of_group (subst (λ k. k ≤ t.size / 4) (sym of_old) c.requires.short)
    (power_of_two g.F.FftField.adicity t.size t.log_size_of_group t.odd_exponent t.splits.product c.requires.even)
    (next_log _ _ _ (p.power, p.lower_bound, p.upper_bound) e.power_le e.next_power_gt)

pub short_in_order-requires-clause-size : goal.short_in_order-requires-clause-size
short_in_order-requires-clause-size g c =
    let t = c.args.coset.now in
    let len = c.len-len.result in
    let of_old : len ≡ length c.args.coeffs.now.items = c.len-len.ensures ∙ c.args.coeffs.now.ok.0 in
    mid_size t.size len c.as_mut_slice-xs.result.now c.shift_to_coset.new.xs (c.as_mut_slice-xs.ensures.len ∙ c.in_ok-resize.ensures.len) (subst (λ k. k ≤ t.size / 4) (sym of_old) c.requires.short) c.shift_to_coset.auto.xs
    ∙ power_of_two g.F.FftField.adicity t.size t.log_size_of_group t.odd_exponent t.splits.product c.requires.even

pub short_in_order-requires-clause-fits : goal.short_in_order-requires-clause-fits
short_in_order-requires-clause-fits g c =
    let t = c.args.coset.now in
    let len = c.len-len.result in
    let of_old : len ≡ length c.args.coeffs.now.items = c.len-len.ensures ∙ c.args.coeffs.now.ok.0 in
    subst (λ k. k < 2 ^ 64) (sym (mid_size t.size len c.as_mut_slice-xs.result.now c.shift_to_coset.new.xs (c.as_mut_slice-xs.ensures.len ∙ c.in_ok-resize.ensures.len) (subst (λ k. k ≤ t.size / 4) (sym of_old) c.requires.short) c.shift_to_coset.auto.xs))
    t.splits.fits

pub short_in_order-requires-clause-whole : goal.short_in_order-requires-clause-whole
short_in_order-requires-clause-whole g c =
    let t = c.args.coset.now in
    let len = c.len-len.result in
    let of_old : len ≡ length c.args.coeffs.now.items = c.len-len.ensures ∙ c.args.coeffs.now.ok.0 in
    ap length c.as_mut_slice.ensures.value
    ∙ (c.in_ok-tables.ensures.len
    ∙ ap (λ k. k / 2) (sym (mid_size t.size len c.as_mut_slice-xs.result.now c.shift_to_coset.new.xs (c.as_mut_slice-xs.ensures.len ∙ c.in_ok-resize.ensures.len) (subst (λ k. k ≤ t.size / 4) (sym of_old) c.requires.short) c.shift_to_coset.auto.xs)))

pub returns-clause-transform : goal.returns-clause-transform
returns-clause-transform g c =
    let K = g.F.Field.field in
    let t = c.args.coset.now in
    let len = c.len-len.result in
    let fitted = c.as_mut_slice-xs.result.now in
    let front = c.shift_to_coset.new.xs in
    let now = c.short_in_order.new.xs in
    let old = c.args.coeffs.now.items in
    let of_old : len ≡ length old = c.len-len.ensures ∙ c.args.coeffs.now.ok.0 in
    let of_fitted : length fitted ≡ t.size = c.as_mut_slice-xs.ensures.len ∙ c.in_ok-resize.ensures.len in
    let short : len ≤ t.size / 4 = subst (λ k. k ≤ t.size / 4) (sym of_old) c.requires.short in
    let p = c.next_power_of_two.ensures in
    let e = c.ilog2-log_len.ensures in
    let of_now : length now ≡ t.size = c.short_in_order.auto.xs ∙ mid_size t.size len fitted front of_fitted short c.shift_to_coset.auto.xs in
    ap (map g.T.Summand.meaning) (written_back now _ c.resize.new.self.len (of_now ∙ sym c.in_ok-resize.ensures.len))
    ∙ short_transform t.size len fitted front of_fitted short c.shift_to_coset.auto.xs g.met.F.Field.field_laws g.met.T.Summand.module_laws g.T.Summand.meaning
    t.log_size_of_group c.ilog2-log_len.result t.group_gen t.offset
    (power_of_two g.F.FftField.adicity t.size t.log_size_of_group t.odd_exponent t.splits.product c.requires.even)
    (subst (λ w. HasOrder K w t.size) (sym ((g.met.F.Field.equality_law _ _).0 t.root_is)) (g.met.F.FftField.roots_law.order t.size (t.log_size_of_group, t.odd_exponent, t.splits)))
    (next_log _ _ _ (p.power, p.lower_bound, p.upper_bound) e.power_le e.next_power_gt)
    old c.resize.new.self.items now _ c.zero.result c.mul.result c.in_ok-tables.tables.items c.as_mut_slice.result.now
    of_old c.as_mut_slice-xs.ensures.value c.in_ok-resize.ensures.items (ap g.T.Summand.meaning c.zero.ensures ∙ g.met.T.Summand.zero_meaning)
    c.shift_to_coset.ensures.items
    (g.met.F.Field.mul_law _ _ _ c.mul.ensures) c.as_mut_slice.ensures.value c.in_ok-tables.ensures.len c.in_ok-tables.ensures.first c.in_ok-tables.ensures.seconds
    c.short_in_order.auto.xs c.short_in_order.ensures.sums

pub returns-clause-cost : goal.returns-clause-cost
returns-clause-cost g c =
    let t = c.args.coset.now in
    let len = c.len-len.result in
    let of_old : len ≡ length c.args.coeffs.now.items = c.len-len.ensures ∙ c.args.coeffs.now.ok.0 in
    let p = c.next_power_of_two.ensures in
    let e = c.ilog2-log_len.ensures in
    short_cost t.size len c.as_mut_slice-xs.result.now c.shift_to_coset.new.xs (c.as_mut_slice-xs.ensures.len ∙ c.in_ok-resize.ensures.len) (subst (λ k. k ≤ t.size / 4) (sym of_old) c.requires.short) c.shift_to_coset.auto.xs
    g.F.FftField.adicity t.group_gen t.offset (length c.args.coeffs.now.items) c.ilog2-log_len.result
    of_old (next_log _ _ _ (p.power, p.lower_bound, p.upper_bound) e.power_le e.next_power_gt) c.shift_to_coset.ensures.counted c.short_in_order.ensures.counted
