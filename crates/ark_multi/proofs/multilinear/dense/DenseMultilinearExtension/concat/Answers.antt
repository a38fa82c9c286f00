use Rattle.std.specs.Prelude.{is_ok}
use Rattle.std.proofs.Common.{rules, refl, ◌≡◌, ◌<◌, ◌≤◌, ◌-◌, ◌^◌, ℕ, List, IsOkUnless, flat_map, length, min, subst, sym, ap, ◌∙◌, ⊎_elim, arith, true≢false}
use Rattle.std.proofs.Math.Nat.{pow-le-pow_right}
use Rattle.std.proofs.lemmas.Bool.{cases_lt}
use Rattle.std.proofs.lemmas.List.Folds.{flat_map-map}
use mathlib.Core.Path.{fun_ext}
use Rattle.ark_traits.specs.declared.error.PolyError.TheVariants.{Memory, Overflow}
use Rattle.ark_math.proofs.Outcomes.Results.{no_other_error}
use Rattle.ark_math.specs.Cost.{IsLog2Up}
use Rattle.ark_math.specs.Field.{FieldOn}
use Rattle.ark_math.specs.Univariate.{of_list}
use Rattle.ark_tables.proofs.DenseTables.{is_listing}
use Rattle.ark_multi.specs.declared.multilinear.dense.DenseMultilinearExtension.{DenseMultilinearExtension}
use Rattle.ark_multi.specs.Extensions.{dense_table, dense_values, values_of}
use Rattle.ark_multi.proofs.multilinear.dense.DenseMultilinearExtension.concat.Goals as goal

-- the values that tables list are those that are held
held_values : {F : Type 0} (K : FieldOn F) (ps : List (DenseMultilinearExtension F)) → flat_map (λ (v : List F). v) (dense_values K ps) ≡ flat_map (λ (p : DenseMultilinearExtension F). p.evaluations.items) ps
held_values {F = F} K ps =
    flat_map-map (λ (v : List F). v) (λ p. values_of (dense_table K p)) ps
    ∙ ap (λ (f : DenseMultilinearExtension F → List F). flat_map f ps) (fun_ext (λ p. sym (is_listing K p.evaluations.items p.num_vars p.whole)))

-- as many values as these tables have
abbrev count : {F : Type 0} → FieldOn F → List (DenseMultilinearExtension F) → ℕ
count {F = F} K ps = length (flat_map (λ (v : List F). v) (dense_values K ps))

too_many : (s t r : ℕ) → t ≡ min (2 ^ 64 - 1) s → IsLog2Up t r → 64 ≤ r → 2 ^ 63 < s
too_many s t r is log past = ⊎_elim
    (λ (l : 2 ^ 63 < s). l)
    (λ (l : s ≤ 2 ^ 63). let few : r ≤ 63 = log.1 63 (omega arith) in absurd (omega arith))
    (cases_lt (2 ^ 63) s)

few_enough : (s t r : ℕ) → t ≡ min (2 ^ 64 - 1) s → IsLog2Up t r → r < 64 → s ≤ 2 ^ 63
few_enough s t r is log few =
    let small : r ≤ 63 = omega arith in
    let power : 2 ^ r ≤ 2 ^ 63 = pow-le-pow_right (omega arith) small in
    omega (arith, log.0)

module _ {F : Type 0} (K : FieldOn F) (ps : List (DenseMultilinearExtension F)) (t r : ℕ) (is : t ≡ min (2 ^ 64 - 1) (length (flat_map (λ (p : DenseMultilinearExtension F). p.evaluations.items) ps))) (log : IsLog2Up t r) where
  counted : count K ps ≡ length (flat_map (λ (p : DenseMultilinearExtension F). p.evaluations.items) ps)
  counted = ap length (held_values K ps)

  past_all : 64 ≤ r → 2 ^ 63 < count K ps
  past_all past = subst (λ n. 2 ^ 63 < n) (sym counted) (too_many _ t r is log past)

  not_past : r < 64 → 2 ^ 63 < count K ps → ⊥
  not_past few past = let l = few_enough _ t r is log few in absurd (omega (arith, counted))

  log_of_all : r < 64 → IsLog2Up (count K ps) r
  log_of_all few =
      let l = few_enough _ t r is log few in
      let whole : t ≡ count K ps = omega (arith, counted, is) in
      subst (λ n. IsLog2Up n r) whole log

pub returns-then-num_vars-ge64-clause-overflow : goal.returns-then-num_vars-ge64-clause-overflow
returns-then-num_vars-ge64-clause-overflow g c = (
  λ e. past_all g.F.Field.field c.args.polys.now c.total_len.result c.log2-num_vars.result c.total_len.ensures c.log2-num_vars.ensures c.if-num_vars-ge64.true,
  λ l. refl,
)

pub returns-in_err-evaluations-clause-overflow : goal.returns-in_err-evaluations-clause-overflow
returns-in_err-evaluations-clause-overflow g c =
    let memory : IsOkUnless c.from_residual.result Memory = search rules in (
      λ e. absurd (no_other_error c.from_residual.result Memory Overflow memory (λ same. cc) e),
      λ l. absurd (not_past g.F.Field.field c.args.polys.now c.total_len.result c.log2-num_vars.result c.total_len.ensures c.log2-num_vars.ensures c.if-num_vars-ge64.false l),
    )

pub returns-clause-values : goal.returns-clause-values
returns-clause-values g c =
    let K = g.F.Field.field in
    let ps = c.args.polys.now in
    let p = c.from_evaluations_vec in
    record {
      variables = subst (IsLog2Up (count K ps)) (sym p.ensures.variables)
          (log_of_all K ps c.total_len.result c.log2-num_vars.result c.total_len.ensures c.log2-num_vars.ensures c.if-num_vars-ge64.false);
      values = p.ensures.values ∙ c.in_ok-evaluations.ensures.values ∙ sym (ap (of_list K) (held_values K ps));
    }

pub returns-clause-overflow : goal.returns-clause-overflow
returns-clause-overflow g c = (
  λ e. absurd (true≢false (ap is_ok e)),
  λ l. absurd (not_past g.F.Field.field c.args.polys.now c.total_len.result c.log2-num_vars.result c.total_len.ensures c.log2-num_vars.ensures c.if-num_vars-ge64.false l),
)
