use Rattle.std.proofs.Common.{◌≡◌, ℕ, map, length, ◌/◌, ◌^◌, ◌<◌, sym, ap, subst, ◌∙◌}
use Rattle.ark_math.specs.Domain.{Domain, radix2}
use Rattle.ark_math.specs.Field.{power}
use Rattle.ark_fft.specs.Halves.{ArePowers}
use Rattle.ark_math.specs.Root.{HasOrder}
use Rattle.ark_math.specs.Module.{item}
use Rattle.ark_math.proofs.Lists.Lists.{written_back}
use Rattle.ark_fft.proofs.Radix2 as radix2_kernel
use Rattle.ark_fft.proofs.Radix2.{scaled_cost}
use Rattle.ark_math.specs.Cost.{forward}
use Rattle.ark_math.proofs.Domains.Sizes.{power_of_two, log_of_long}
use Rattle.ark_math_transforms.proofs.Transforms.Transforms.{AreShifted}
use Rattle.ark_fft.proofs.domain.radix2.fft.in_order_fft_in_place.Goals as goal

pub in_order-requires-clause-size : goal.in_order-requires-clause-size
in_order-requires-clause-size g c =
    let t = c.args.coset.now in
    c.shift_to_coset.auto.xs
    ∙ (c.as_mut_slice-xs.ensures.len
    ∙ (c.in_ok-table.ensures.len ∙ power_of_two g.F.FftField.adicity t.size t.log_size_of_group t.odd_exponent t.splits.product c.requires.even))

pub in_order-requires-clause-fits : goal.in_order-requires-clause-fits
in_order-requires-clause-fits g c = subst (λ k. k < 2 ^ 64) (sym (c.shift_to_coset.auto.xs ∙ (c.as_mut_slice-xs.ensures.len ∙ c.in_ok-table.ensures.len))) c.args.coset.now.splits.fits

pub in_order-requires-clause-half : goal.in_order-requires-clause-half
in_order-requires-clause-half g c =
    ap length c.as_mut_slice.ensures.value
    ∙ (c.in_ok-table.ensures.table.len ∙ ap (λ k. k / 2) (sym (c.shift_to_coset.auto.xs ∙ (c.as_mut_slice-xs.ensures.len ∙ c.in_ok-table.ensures.len))))

pub returns-clause-transform : goal.returns-clause-transform
returns-clause-transform g c =
    let K = g.F.Field.field in
    let V = g.T.Summand.group in
    let m = g.T.Summand.meaning in
    let N = g.met.F.Field.field_laws in
    let L = g.met.T.Summand.module_laws in
    let t = c.args.coset.now in
    let d : Domain g.row.F.Denot = record { kind = radix2; size = t.size; root = t.group_gen; offset = t.offset } in
    let order : HasOrder K d.root d.size = subst (λ w. HasOrder K w t.size) (sym ((g.met.F.Field.equality_law _ _).0 t.root_is)) (g.met.F.FftField.roots_law.order t.size (t.log_size_of_group, t.odd_exponent, t.splits)) in
    let is_power : t.size ≡ 2 ^ t.log_size_of_group = power_of_two g.F.FftField.adicity t.size t.log_size_of_group t.odd_exponent t.splits.product c.requires.even in
    let old = c.args.coeffs.now.items in
    let fitted = c.as_mut_slice-xs.result.now in
    let fit : (j : ℕ) → j < t.size → item V (map m fitted) j ≡ item V (map m old) j = λ j l.
    ap (λ xs. item V (map m xs) j) c.as_mut_slice-xs.ensures.value ∙ c.in_ok-table.ensures.fitted j l in
    let table : ArePowers K t.group_gen (t.size / 2) c.as_mut_slice.result.now = subst (ArePowers K t.group_gen (t.size / 2)) (sym c.as_mut_slice.ensures.value) c.in_ok-table.ensures.table in
    let mid = c.shift_to_coset.new.xs in
    let of_fitted : length fitted ≡ t.size = c.as_mut_slice-xs.ensures.len ∙ c.in_ok-table.ensures.len in
    let size_mid : length mid ≡ t.size = c.shift_to_coset.auto.xs ∙ of_fitted in
    let size_now : length c.in_order.new.xs ≡ t.size = c.in_order.auto.xs ∙ size_mid in
    let shifted : AreShifted N L d (map m old) (item V (map m mid)) = λ j l.
    c.shift_to_coset.ensures.items j (subst (λ k. j < k) (sym of_fitted) l) ∙ ap (V.scale (power K t.offset j)) (fit j l) in
    ap (map m) (written_back c.in_order.new.xs _ _ (size_now ∙ sym c.in_ok-table.ensures.len))
    ∙ radix2_kernel.forward N L m d t.log_size_of_group is_power order c.as_mut_slice.result.now old mid c.in_order.new.xs table size_mid size_now shifted c.in_order.ensures.sums

pub returns-clause-cost : goal.returns-clause-cost
returns-clause-cost g c =
    let t = c.args.coset.now in
    let is_power : t.size ≡ 2 ^ t.log_size_of_group = power_of_two g.F.FftField.adicity t.size t.log_size_of_group t.odd_exponent t.splits.product c.requires.even in
    let of_fitted : length c.as_mut_slice-xs.result.now ≡ t.size = c.as_mut_slice-xs.ensures.len ∙ c.in_ok-table.ensures.len in
    let len = length c.args.coeffs.now.items in
    scaled_cost g.F.FftField.adicity t.group_gen t.offset forward t.size t.log_size_of_group len (length c.as_mut_slice-xs.result.now) (length c.shift_to_coset.new.xs)
    (log_of_long t.size len t.log_size_of_group c.requires.long is_power) of_fitted (c.shift_to_coset.auto.xs ∙ of_fitted) c.shift_to_coset.ensures.counted c.in_order.ensures.counted
