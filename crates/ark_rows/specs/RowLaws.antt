-- Rows are a module.
use Rattle.std.specs.Prelude.{ℕ, ◌≡◌, ◌<◌, ◌≤◌, get_or, Bool, Decides}
use Rattle.std.proofs.Common.{sym, ◌∙◌, ap, ap₂, subst, ⊎_elim, refl}
use Rattle.std.proofs.Math.Path.{fun_ext}
use Rattle.std.proofs.lemmas.Bool.{cases_lt}
use Rattle.std.proofs.lemmas.List.{get_or_past, get_or-replicate, ext_get_or}
use Rattle.std.specs.Cmp.Lexicographic.{pointwise, pointwise_decides}
use Rattle.ark_math.specs.Field.{FieldOn, IsField, minus}
use Rattle.ark_math.specs.Module.{ModuleOn, IsModule}
use Rattle.ark_math.proofs.Algebra.Groups.{itself_is_module, minus_zero, scale_zero}
use Rattle.ark_rows.specs.declared.row.Row.{Row}
use Rattle.ark_rows.specs.Lanewise.{lanewise}
use Rattle.ark_rows.specs.Row.{lanes, zero_row, IsSum, IsDifference, IsMultiple}

-- a module's values side by side are a module
pub lanewise_is_module : {F M : Type 0} {K : FieldOn F} {V : ModuleOn F M} → IsModule K V → IsModule K (lanewise V)
lanewise_is_module L = record {
  plus_assoc = λ x y z. fun_ext (λ i. L.plus_assoc (x i) (y i) (z i));
  plus_comm = λ x y. fun_ext (λ i. L.plus_comm (x i) (y i));
  plus_zero = λ x. fun_ext (λ i. L.plus_zero (x i));
  plus_negated = λ x. fun_ext (λ i. L.plus_negated (x i));
  scale_plus = λ a x y. fun_ext (λ i. L.scale_plus a (x i) (y i));
  plus_scale = λ a b x. fun_ext (λ i. L.plus_scale a b (x i));
  times_scale = λ a b x. fun_ext (λ i. L.times_scale a b (x i));
  one_scale = λ x. fun_ext (λ i. L.one_scale (x i));
}

module _ {F : Type 0} {N : ℕ} (K : FieldOn F) where
  -- past the last lane is zero
  past : (r : Row F N) (i : ℕ) → N ≤ i → lanes K r i ≡ K.zero
  past r i l = get_or_past r.items i K.zero (subst (λ n. n ≤ i) (sym r.whole) l)

  -- what the lanes below N say, and zeros past them
  by_lanes : (r : Row F N) (f : ℕ → F) → ((i : ℕ) → i < N → lanes K r i ≡ f i) → ((i : ℕ) → N ≤ i → f i ≡ K.zero) → lanes K r ≡ f
  by_lanes r f below after = fun_ext (λ i. ⊎_elim (below i) (λ l. past r i l ∙ sym (after i l)) (cases_lt i N))

  pub cloned : (a b : Row F N) → b ≡ a → lanes K b ≡ lanes K a
  cloned a b e = ap (lanes K) e

  same_items : (a b : Row F N) → a.items ≡ b.items → lanes K a ≡ lanes K b
  same_items a b e = ap (λ xs i. get_or xs i K.zero) e

  same_lanes : (a b : Row F N) → lanes K a ≡ lanes K b → a.items ≡ b.items
  same_lanes a b e = ext_get_or K.zero a.items b.items (a.whole ∙ sym b.whole) (λ i l. ap (λ f. f i) e)

  pub lanes_Decides : {eq : F → F → Bool} → ((a b : F) → Decides (eq a b) (a ≡ b)) → (a b : Row F N) → Decides (pointwise eq a.items b.items) (lanes K a ≡ lanes K b)
  lanes_Decides same a b =
      let d = pointwise_decides same a.items b.items in
      (λ h. same_items a b (d.0 h), λ e. d.1 (same_lanes a b e))

  module _ (L : IsField K) where
    pub of_sum : (a b r : Row F N) → IsSum K a b r → lanes K r ≡ (λ i. K.plus (lanes K a i) (lanes K b i))
    of_sum a b r h = by_lanes r _ h (λ i l. ap₂ K.plus (past a i l) (past b i l) ∙ L.plus_zero K.zero)

    pub of_difference : (a b r : Row F N) → IsDifference K a b r → lanes K r ≡ (λ i. K.plus (lanes K a i) (K.negated (lanes K b i)))
    of_difference a b r h = by_lanes r _ h (λ i l. ap₂ (minus K) (past a i l) (past b i l) ∙ minus_zero (itself_is_module K L) K.zero)

    pub of_multiple : (a : Row F N) (f : F) (r : Row F N) → IsMultiple K f a r → lanes K r ≡ (λ i. K.times f (lanes K a i))
    of_multiple a f r h = by_lanes r _ h (λ i l. ap (K.times f) (past a i l) ∙ scale_zero (itself_is_module K L) f)

pub of_zeros : (N : ℕ) {F : Type 0} (K : FieldOn F) → lanes {N = N} K (zero_row K) ≡ (λ i. K.zero)
of_zeros N K = by_lanes K (zero_row {N = N} K) (λ i. K.zero) (λ i l. get_or-replicate N i K.zero K.zero l) (λ i l. refl)
