use Rattle.std.proofs.Common.{rules, ◌≡◌, ℕ, map, length, Some, ◌<◌, ◌*◌, ◌^◌, arith, sym, ap, subst, ◌∙◌}
use Rattle.ark_math.specs.Domain.{Domain, mixed_radix}
use Rattle.ark_math.specs.Field.{natural, power}
use Rattle.ark_math_transforms.proofs.Roots.Orthogonal.{order_of_inverse}
use Rattle.ark_fft.specs.Halves.{ArePowers, AreLevels}
use Rattle.ark_math.specs.Root.{HasOrder, odd_base}
use Rattle.ark_math_transforms.proofs.Domains.MixedSizes.{base_above}
use Rattle.ark_math.specs.Cost.{inverse}
use Rattle.ark_math.specs.Module.{item}
use Rattle.ark_math.specs.Transform.{IsInverse}
use Rattle.ark_math.proofs.Lists.Lists.{written_back}
use Rattle.ark_fft.proofs.Mixed.{backward, cost_then_scaled}
use Rattle.ark_fft.proofs.Counts.{positive}
use Rattle.ark_fft.proofs.domain.mixed_radix.kernel.ifft_counted.Goals as goal

pub returns-clause-inverse : goal.returns-clause-inverse
returns-clause-inverse g c =
    let K = g.F.Field.field in
    let V = g.T.Summand.group in
    let m = g.T.Summand.meaning in
    let t = c.args.coset.now in
    let same = λ (x y : g.row.F.Denot). (g.met.F.Field.equality_law x y).0 in
    let d : Domain g.row.F.Denot = record { kind = mixed_radix; size = t.size; root = t.group_gen; offset = t.offset } in
    let order : HasOrder K d.root d.size = subst (λ w. HasOrder K w t.size) (sym (same _ _ t.root_is)) (g.met.F.FftField.roots_law.order t.size (t.log_size_of_group, t.odd_exponent, t.splits)) in
    let old = c.args.evals.now.items in
    let root_inverse = same _ _ t.root_inverse_is in
    let offset_inverse = same _ _ t.offset_inverse_is in
    let size_inverse : K.times (natural K t.size) t.size_inv ≡ K.one = ap (λ x. K.times x t.size_inv) (sym (same _ _ t.size_element_is)) ∙ same _ _ t.size_inverse_is in
    let fitted = c.as_mut_slice-xs.result.now in
    let now = c.scale_by_powers.new.xs in
    let fit : (j : ℕ) → j < t.size → item V (map m fitted) j ≡ item V (map m old) j = λ j l.
    ap (λ xs. item V (map m xs) j) c.as_mut_slice-xs.ensures.value ∙ c.in_ok-table.ensures.fitted j l in
    let size_fitted : length fitted ≡ t.size = c.as_mut_slice-xs.ensures.len ∙ c.in_ok-table.ensures.len in
    let size_mid : length c.mixed.new.xs ≡ t.size = c.mixed.auto.xs ∙ size_fitted in
    let size_now : length now ≡ t.size = c.scale_by_powers.auto.xs ∙ size_mid in
    let table : ArePowers K t.group_gen_inv t.size c.as_slice.result.now =
    subst (ArePowers K t.group_gen_inv t.size) (sym c.as_slice.ensures.value) c.in_ok-table.ensures.table in
    let s = g.F.FftField.adicity in
    let e : s.odd ≡ Some c.unwrap-base.result = sym c.odd_base.ensures ∙ c.unwrap-base.ensures in
    let q = c.unwrap-base.result.0 in
    let base : odd_base s.odd ^ t.odd_exponent ≡ 1 * q ^ t.odd_exponent = ap (λ k. k ^ t.odd_exponent) (ap odd_base e) ∙ omega arith in
    let inverse_order : HasOrder K t.group_gen_inv t.size = order_of_inverse K g.met.F.Field.field_laws t.group_gen t.group_gen_inv t.size order root_inverse in
    let tables : AreLevels K (power K t.group_gen_inv (1 * q ^ t.odd_exponent)) t.log_size_of_group c.as_slice-2.result.now =
    subst (λ k. AreLevels K (power K t.group_gen_inv k) t.log_size_of_group c.as_slice-2.result.now) base
    (subst (AreLevels K _ t.log_size_of_group) (sym c.as_slice-2.ensures.value) (c.in_ok-tables.ensures.levels inverse_order)) in
    let is_inverse : IsInverse K V d (map m old) (map m now) =
    backward g.met.F.Field.field_laws g.met.T.Summand.module_laws m d order (λ w. AreLevels K (power K w (1 * q ^ t.odd_exponent)) t.log_size_of_group c.as_slice-2.result.now) t.group_gen_inv t.offset_inv t.size_inv c.as_slice.result.now old fitted c.mixed.new.xs now
    (record { of_root = root_inverse; of_offset = offset_inverse; of_size = size_inverse }) table tables
    (record {
      len_fitted = size_fitted;
      len_now = size_now;
      fit = fit;
      scaled = λ j l. c.scale_by_powers.ensures.items j (subst (λ k. j < k) (sym size_mid) l);
    })
    c.mixed.ensures.transformed in
    subst (λ u. IsInverse K V d (map m old) (map m u)) (sym (written_back now _ _ (size_now ∙ sym c.in_ok-table.ensures.len))) is_inverse

pub returns-clause-cost : goal.returns-clause-cost
returns-clause-cost g c =
    let s = g.F.FftField.adicity in
    let t = c.args.coset.now in
    let e : s.odd ≡ Some c.unwrap-base.result = sym c.odd_base.ensures ∙ c.unwrap-base.ensures in
    let q = c.unwrap-base.result.0 in
    let base : q ≡ odd_base s.odd = sym (ap odd_base e) in
    let some : 0 < q = subst (λ k. 0 < k) (sym base) (positive (odd_base s.odd) (base_above s.odd c.unwrap-base.result g.met.F.FftField.roots_law.base e)) in
    let of_fitted : length c.as_mut_slice-xs.result.now ≡ t.size = c.as_mut_slice-xs.ensures.len ∙ c.in_ok-table.ensures.len in
    cost_then_scaled s t.group_gen t.offset inverse (length c.args.evals.now.items) t.size q t.log_size_of_group t.odd_exponent t.splits base some
    (length c.as_mut_slice-xs.result.now) (length c.mixed.new.xs) of_fitted (c.mixed.auto.xs ∙ of_fitted) c.mixed.ensures.counted c.scale_by_powers.ensures.counted

pub mixed-requires-clause-plan : goal.mixed-requires-clause-plan
mixed-requires-clause-plan g c =
    let s = g.F.FftField.adicity in
    let e : s.odd ≡ Some c.unwrap-base.result = sym c.odd_base.ensures ∙ c.unwrap-base.ensures in
    let t = c.args.coset.now in
    let base = ap odd_base e in
    let items : length c.as_mut_slice-xs.result.now ≡ t.size = c.as_mut_slice-xs.ensures.len ∙ c.in_ok-table.ensures.len in
    let roots : length c.as_slice.result.now ≡ t.size = ap length c.as_slice.ensures.value ∙ c.in_ok-table.ensures.table.len in
    record {
      size = items ∙ (t.splits.product ∙ ap (λ k. 2 ^ t.log_size_of_group * k ^ t.odd_exponent) base);
      whole = omega (arith, items, roots);
      even_part = λ some. ap length c.as_slice-2.ensures.value ∙ c.in_ok-tables.ensures.len some;
      small = omega (arith, roots, t.splits.fits);
      stride_not_zero = omega arith;
      above_one = subst (λ k. 1 < k) base (base_above s.odd c.unwrap-base.result g.met.F.FftField.roots_law.base e);
      few = search rules;
    }
