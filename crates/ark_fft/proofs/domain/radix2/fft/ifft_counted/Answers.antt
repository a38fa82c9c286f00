use Rattle.std.proofs.Common.{◌≡◌, ℕ, map, length, ◌/◌, ◌^◌, ◌<◌, sym, ap, subst, ◌∙◌}
use Rattle.ark_math.specs.Domain.{Domain, radix2}
use Rattle.ark_math.specs.Field.{natural}
use Rattle.ark_fft.specs.Halves.{ArePowers}
use Rattle.ark_math.specs.Root.{HasOrder}
use Rattle.ark_math.proofs.Domains.Sizes.{power_of_two, log_of_power}
use Rattle.ark_math.specs.Cost.{inverse}
use Rattle.ark_math.specs.Module.{item}
use Rattle.ark_math.specs.Transform.{IsInverse}
use Rattle.ark_math.proofs.Lists.Lists.{written_back}
use Rattle.ark_fft.proofs.Radix2.{backward, cost_then_scaled}
use Rattle.ark_fft.proofs.domain.radix2.fft.ifft_counted.Goals as goal

pub in_order-requires-clause-size : goal.in_order-requires-clause-size
in_order-requires-clause-size g c =
    let t = c.args.coset.now in
    c.as_mut_slice-xs.ensures.len
    ∙ (c.in_ok-table.ensures.len ∙ power_of_two g.F.FftField.adicity t.size t.log_size_of_group t.odd_exponent t.splits.product c.requires.even)

pub in_order-requires-clause-fits : goal.in_order-requires-clause-fits
in_order-requires-clause-fits g c = subst (λ k. k < 2 ^ 64) (sym (c.as_mut_slice-xs.ensures.len ∙ c.in_ok-table.ensures.len)) c.args.coset.now.splits.fits

pub in_order-requires-clause-half : goal.in_order-requires-clause-half
in_order-requires-clause-half g c =
    ap length c.as_mut_slice.ensures.value ∙ (c.in_ok-table.ensures.table.len ∙ ap (λ k. k / 2) (sym (c.as_mut_slice-xs.ensures.len ∙ c.in_ok-table.ensures.len)))

pub returns-clause-inverse : goal.returns-clause-inverse
returns-clause-inverse g c =
    let K = g.F.Field.field in
    let V = g.T.Summand.group in
    let m = g.T.Summand.meaning in
    let t = c.args.coset.now in
    let odds : t.odd_exponent ≡ 0 = c.requires.even in
    let same = λ (x y : g.row.F.Denot). (g.met.F.Field.equality_law x y).0 in
    let d : Domain g.row.F.Denot = record { kind = radix2; size = t.size; root = t.group_gen; offset = t.offset } in
    let order : HasOrder K d.root d.size = subst (λ w. HasOrder K w t.size) (sym (same _ _ t.root_is)) (g.met.F.FftField.roots_law.order t.size (t.log_size_of_group, t.odd_exponent, t.splits)) in
    let is_power : t.size ≡ 2 ^ t.log_size_of_group = power_of_two g.F.FftField.adicity t.size t.log_size_of_group t.odd_exponent t.splits.product odds in
    let old = c.args.evals.now.items in
    let root_inverse = same _ _ t.root_inverse_is in
    let offset_inverse = same _ _ t.offset_inverse_is in
    let size_inverse : K.times (natural K t.size) t.size_inv ≡ K.one = ap (λ x. K.times x t.size_inv) (sym (same _ _ t.size_element_is)) ∙ same _ _ t.size_inverse_is in
    let fitted = c.as_mut_slice-xs.result.now in
    let now = c.scale_by_powers.new.xs in
    let fit : (j : ℕ) → j < t.size → item V (map m fitted) j ≡ item V (map m old) j = λ j l.
    ap (λ xs. item V (map m xs) j) c.as_mut_slice-xs.ensures.value ∙ c.in_ok-table.ensures.fitted j l in
    let size_fitted : length fitted ≡ t.size = c.as_mut_slice-xs.ensures.len ∙ c.in_ok-table.ensures.len in
    let size_mid : length c.in_order.new.xs ≡ t.size = c.in_order.auto.xs ∙ size_fitted in
    let size_now : length now ≡ t.size = c.scale_by_powers.auto.xs ∙ size_mid in
    let table : ArePowers K t.group_gen_inv (t.size / 2) c.as_mut_slice.result.now =
    subst (ArePowers K t.group_gen_inv (t.size / 2)) (sym c.as_mut_slice.ensures.value) c.in_ok-table.ensures.table in
    let is_inverse : IsInverse K V d (map m old) (map m now) =
    backward g.met.F.Field.field_laws g.met.T.Summand.module_laws m d t.log_size_of_group is_power order t.group_gen_inv t.offset_inv t.size_inv c.as_mut_slice.result.now old fitted c.in_order.new.xs now
    (record { of_root = root_inverse; of_offset = offset_inverse; of_size = size_inverse }) table
    (record {
      len_fitted = size_fitted;
      len_now = size_now;
      fit = fit;
      scaled = λ j l. c.scale_by_powers.ensures.items j (subst (λ k. j < k) (sym size_mid) l);
    })
    c.in_order.ensures.sums in
    subst (λ u. IsInverse K V d (map m old) (map m u)) (sym (written_back now _ _ (size_now ∙ sym c.in_ok-table.ensures.len))) is_inverse

pub returns-clause-cost : goal.returns-clause-cost
returns-clause-cost g c =
    let t = c.args.coset.now in
    let is_power : t.size ≡ 2 ^ t.log_size_of_group = power_of_two g.F.FftField.adicity t.size t.log_size_of_group t.odd_exponent t.splits.product c.requires.even in
    let size : length c.as_mut_slice-xs.result.now ≡ t.size = c.as_mut_slice-xs.ensures.len ∙ c.in_ok-table.ensures.len in
    cost_then_scaled g.F.FftField.adicity t.group_gen t.offset inverse t.size t.log_size_of_group (length c.args.evals.now.items) (length c.as_mut_slice-xs.result.now) (length c.in_order.new.xs)
    (log_of_power t.size t.log_size_of_group is_power) size (c.in_order.auto.xs ∙ size) c.in_order.ensures.counted c.scale_by_powers.ensures.counted
