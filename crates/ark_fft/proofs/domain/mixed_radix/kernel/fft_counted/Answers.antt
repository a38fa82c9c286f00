use Rattle.std.proofs.Common.{rules, ◌≡◌, ℕ, map, length, Some, ◌<◌, ◌*◌, ◌^◌, arith, sym, ap, subst, ◌∙◌}
use Rattle.ark_math.specs.Domain.{Domain, mixed_radix}
use Rattle.ark_math.specs.Field.{power}
use Rattle.ark_fft.specs.Halves.{ArePowers, AreLevels}
use Rattle.ark_math.specs.Root.{HasOrder, odd_base}
use Rattle.ark_math_transforms.proofs.Domains.MixedSizes.{base_above}
use Rattle.ark_math.specs.Module.{item}
use Rattle.ark_math.proofs.Lists.Lists.{written_back}
use Rattle.ark_fft.proofs.Mixed as mixed_kernel
use Rattle.ark_fft.proofs.Mixed.{scaled_cost}
use Rattle.ark_fft.proofs.Counts.{positive}
use Rattle.ark_math.specs.Cost.{forward}
use Rattle.ark_math_transforms.proofs.Transforms.Transforms.{AreShifted}
use Rattle.ark_fft.proofs.domain.mixed_radix.kernel.fft_counted.Goals as goal

pub returns-clause-transform : goal.returns-clause-transform
returns-clause-transform g c =
    let K = g.F.Field.field in
    let V = g.T.Summand.group in
    let m = g.T.Summand.meaning in
    let N = g.met.F.Field.field_laws in
    let L = g.met.T.Summand.module_laws in
    let t = c.args.coset.now in
    let same = λ (x y : g.row.F.Denot). (g.met.F.Field.equality_law x y).0 in
    let d : Domain g.row.F.Denot = record { kind = mixed_radix; size = t.size; root = t.group_gen; offset = t.offset } in
    let order : HasOrder K d.root d.size = subst (λ w. HasOrder K w t.size) (sym (same _ _ t.root_is)) (g.met.F.FftField.roots_law.order t.size (t.log_size_of_group, t.odd_exponent, t.splits)) in
    let old = c.args.coeffs.now.items in
    let fit : (j : ℕ) → j < t.size → item V (map m c.as_mut_slice-xs.result.now) j ≡ item V (map m old) j = λ j l.
    ap (λ xs. item V (map m xs) j) c.as_mut_slice-xs.ensures.value ∙ c.in_ok-table.ensures.fitted j l in
    let of_fitted : length c.as_mut_slice-xs.result.now ≡ t.size = c.as_mut_slice-xs.ensures.len ∙ c.in_ok-table.ensures.len in
    let mid = c.shift_to_coset.new.xs in
    let size_mid : length mid ≡ t.size = c.shift_to_coset.auto.xs ∙ of_fitted in
    let size_now : length c.mixed.new.xs ≡ t.size = c.mixed.auto.xs ∙ size_mid in
    let table : ArePowers K t.group_gen t.size c.as_slice.result.now = subst (ArePowers K t.group_gen t.size) (sym c.as_slice.ensures.value) c.in_ok-table.ensures.table in
    let s = g.F.FftField.adicity in
    let e : s.odd ≡ Some c.unwrap-base.result = sym c.odd_base.ensures ∙ c.unwrap-base.ensures in
    let q = c.unwrap-base.result.0 in
    let base : odd_base s.odd ^ t.odd_exponent ≡ 1 * q ^ t.odd_exponent = ap (λ k. k ^ t.odd_exponent) (ap odd_base e) ∙ omega arith in
    let tables : AreLevels K (power K t.group_gen (1 * q ^ t.odd_exponent)) t.log_size_of_group c.as_slice-2.result.now =
    subst (λ k. AreLevels K (power K t.group_gen k) t.log_size_of_group c.as_slice-2.result.now) base
    (subst (AreLevels K _ t.log_size_of_group) (sym c.as_slice-2.ensures.value) (c.in_ok-tables.ensures.levels order)) in
    let shifted : AreShifted N L d (map m old) (item V (map m mid)) = λ j l.
    c.shift_to_coset.ensures.items j (subst (λ k. j < k) (sym of_fitted) l) ∙ ap (V.scale (power K t.offset j)) (fit j l) in
    ap (map m) (written_back c.mixed.new.xs _ _ (size_now ∙ sym c.in_ok-table.ensures.len))
    ∙ mixed_kernel.forward N L m d order (λ w. AreLevels K (power K w (1 * q ^ t.odd_exponent)) t.log_size_of_group c.as_slice-2.result.now) c.as_slice.result.now old mid c.mixed.new.xs table tables size_mid size_now shifted c.mixed.ensures.transformed

pub returns-clause-cost : goal.returns-clause-cost
returns-clause-cost g c =
    let s = g.F.FftField.adicity in
    let t = c.args.coset.now in
    let e : s.odd ≡ Some c.unwrap-base.result = sym c.odd_base.ensures ∙ c.unwrap-base.ensures in
    let q = c.unwrap-base.result.0 in
    let base : q ≡ odd_base s.odd = sym (ap odd_base e) in
    let some : 0 < q = subst (λ k. 0 < k) (sym base) (positive (odd_base s.odd) (base_above s.odd c.unwrap-base.result g.met.F.FftField.roots_law.base e)) in
    let of_fitted : length c.as_mut_slice-xs.result.now ≡ t.size = c.as_mut_slice-xs.ensures.len ∙ c.in_ok-table.ensures.len in
    scaled_cost s t.group_gen t.offset forward (length c.args.coeffs.now.items) t.size q t.log_size_of_group t.odd_exponent t.splits base some
    (length c.as_mut_slice-xs.result.now) (length c.shift_to_coset.new.xs) of_fitted (c.shift_to_coset.auto.xs ∙ of_fitted) c.shift_to_coset.ensures.counted c.mixed.ensures.counted

pub mixed-requires-clause-plan : goal.mixed-requires-clause-plan
mixed-requires-clause-plan g c =
    let s = g.F.FftField.adicity in
    let e : s.odd ≡ Some c.unwrap-base.result = sym c.odd_base.ensures ∙ c.unwrap-base.ensures in
    let t = c.args.coset.now in
    let base = ap odd_base e in
    let items : length c.shift_to_coset.new.xs ≡ t.size = c.shift_to_coset.auto.xs ∙ (c.as_mut_slice-xs.ensures.len ∙ c.in_ok-table.ensures.len) in
    let roots : length c.as_slice.result.now ≡ t.size = ap length c.as_slice.ensures.value ∙ c.in_ok-table.ensures.table.len in
    record {
      size = items ∙ (t.splits.product ∙ ap (λ k. 2 ^ t.log_size_of_group * k ^ t.odd_exponent) base);
      whole = omega (arith, items, roots);
      even_part = λ some. ap length c.as_slice-2.ensures.value ∙ c.in_ok-tables.ensures.len some;
      small = omega (arith, roots, t.splits.fits);
      stride_not_zero = omega arith;
      above_one = subst (λ k. 1 < k) base (base_above s.odd c.unwrap-base.result g.met.F.FftField.roots_law.base e);
      few = search rules;
    }
