-- Coefficient functions are a module; what is below a bound; the degree.
use Rattle.std.proofs.Common.{◌≡◌, ◌≢◌, ℕ, suc, ◌<◌, ◌≤◌, sym, ◌∙◌, ap, ap₂, refl, subst, arith, ⊎_elim, eqb}
use mathlib.Core.Path.{fun_ext}
use Rattle.std.proofs.lemmas.Bool.{cases_eq, cases_lt, cases_order, cond-true, cond-false, eq-eqb, ne_eqb}
use Rattle.ark_math.specs.Field.{FieldOn, IsField}
use Rattle.ark_math.specs.Module.{IsModule}
use Rattle.ark_math.specs.Univariate.{nothing, added, difference, opposite, scaled, coefficient_operations, IsBelow, monomial, IsDegree}
use Rattle.ark_math.proofs.Algebra.Groups.{itself_is_module, scale_zero}
use Rattle.ark_math.proofs.Algebra.Solve.{nought, unit, negative, ◌⊗◌}
use Rattle.ark_math.proofs.Algebra.Ring.{ring1}

-- so the solver closes their equations
pub coefficients_are_module : {I F : Type 0} (K : FieldOn F) → IsField K → IsModule K (coefficient_operations {I = I} K)
coefficients_are_module K N =
    let L = itself_is_module K N in
    record {
      plus_assoc = λ a b c. fun_ext (λ i. L.plus_assoc (a i) (b i) (c i));
      plus_comm = λ a b. fun_ext (λ i. L.plus_comm (a i) (b i));
      plus_zero = λ a. fun_ext (λ i. L.plus_zero (a i));
      plus_negated = λ a. fun_ext (λ i. L.plus_negated (a i));
      scale_plus = λ s a b. fun_ext (λ i. L.scale_plus s (a i) (b i));
      plus_scale = λ s t a. fun_ext (λ i. L.plus_scale s t (a i));
      times_scale = λ s t a. fun_ext (λ i. L.times_scale s t (a i));
      one_scale = λ a. fun_ext (λ i. L.one_scale (a i));
    }

pub monomial-same : {F : Type 0} (K : FieldOn F) (n : ℕ) (c : F) → monomial K n c n ≡ c
monomial-same K n c = cond-true (eqb n n) c K.zero (eq-eqb n n refl)

pub monomial-other : {F : Type 0} (K : FieldOn F) (n : ℕ) (c : F) (i : ℕ) → n ≢ i → monomial K n c i ≡ K.zero
monomial-other K n c i ne = cond-false (eqb n i) c K.zero (ne_eqb n i ne)

module _ {F : Type 0} (K : FieldOn F) where
  pub nothing-below : (n : ℕ) → IsBelow K n (nothing K)
  nothing-below n i l = refl

  pub nothing_from_below : (a : ℕ → F) → IsBelow K 0 a → a ≡ nothing K
  nothing_from_below a h = fun_ext (λ i. h i (omega arith))

  pub IsBelow-more : (m n : ℕ) (a : ℕ → F) → m ≤ n → IsBelow K m a → IsBelow K n a
  IsBelow-more m n a l h i b = h i (omega arith)

  -- one less, where that coefficient is zero
  pub IsBelow-less : (n : ℕ) (a : ℕ → F) → a n ≡ K.zero → IsBelow K (suc n) a → IsBelow K n a
  IsBelow-less n a e h i l = ⊎_elim (λ (f : i ≡ n). ap a f ∙ e) (λ (ne : i ≢ n). h i (omega arith)) (cases_eq i n)

  pub monomial-below : (n m : ℕ) (c : F) → n < m → IsBelow K m (monomial K n c)
  monomial-below n m c l i b = monomial-other K n c i (λ e. omega arith)

  -- coefficients below n that agree there
  pub same_below : (n : ℕ) (a b : ℕ → F) → IsBelow K n a → IsBelow K n b → ((i : ℕ) → i < n → a i ≡ b i) → a ≡ b
  same_below n a b f g h = fun_ext (λ i. ⊎_elim (h i) (λ (l : n ≤ i). f i l ∙ sym (g i l)) (cases_lt i n))

  -- what isn't zero isn't zero at its degree
  pub leading_not_zero : (a : ℕ → F) (d : ℕ) → IsDegree K a d → a ≢ nothing K → a d ≢ K.zero
  leading_not_zero a d h some e =
      ⊎_elim
      (λ (l : 0 < d). h.leading l e)
      (λ (l : d ≤ 0). some (nothing_from_below a (λ i b. IsBelow-less d a e (λ j m. h.rest j (omega arith)) i (omega arith))))
      (cases_lt 0 d)

  pub one_degree : (a : ℕ → F) (d e : ℕ) → IsDegree K a d → IsDegree K a e → d ≡ e
  one_degree a d e f g =
      ⊎_elim
      (λ (h : d ≡ e). h)
      (λ h. ⊎_elim
      (λ (l : d < e). absurd (g.leading (omega arith) (f.rest e (omega arith))))
      (λ (l : e < d). absurd (f.leading (omega arith) (g.rest d (omega arith)))) h)
      (cases_order d e)

module _ {F : Type 0} (K : FieldOn F) (N : IsField K) (n : ℕ) (a b : ℕ → F) where
  pub added-below : IsBelow K n a → IsBelow K n b → IsBelow K n (added K a b)
  added-below f g i l = ap₂ K.plus (f i l) (g i l) ∙ N.plus_zero K.zero

  pub difference-below : IsBelow K n a → IsBelow K n b → IsBelow K n (difference K a b)
  difference-below f g i l = ap₂ (λ x y. K.plus x (K.negated y)) (f i l) (g i l) ∙ N.plus_negated K.zero

module _ {F : Type 0} (K : FieldOn F) (N : IsField K) (n : ℕ) (a : ℕ → F) where
  pub opposite-below : IsBelow K n a → IsBelow K n (opposite K a)
  opposite-below f i l = ap K.negated (f i l) ∙ ring1 K N (λ x. (negative nought, nought)) refl K.one

  pub scaled-below : (c : F) → IsBelow K n a → IsBelow K n (scaled K c a)
  scaled-below c f i l = ap (K.times c) (f i l) ∙ scale_zero (itself_is_module K N) c

pub monomial-opposite : {F : Type 0} (K : FieldOn F) (N : IsField K) (n : ℕ) (c : F) → monomial K n (K.negated c) ≡ opposite K (monomial K n c)
monomial-opposite K N n c = fun_ext (λ i. ⊎_elim
    (λ (e : n ≡ i). subst (λ t. monomial K n (K.negated c) t ≡ K.negated (monomial K n c t)) e (monomial-same K n (K.negated c) ∙ ap K.negated (sym (monomial-same K n c))))
    (λ (ne : n ≢ i). monomial-other K n (K.negated c) i ne ∙ ring1 K N (λ x. (nought, negative nought)) refl K.one ∙ ap K.negated (sym (monomial-other K n c i ne)))
    (cases_eq n i))

pub monomial-scaled : {F : Type 0} (K : FieldOn F) (N : IsField K) (n : ℕ) (s c : F) → monomial K n (K.times s c) ≡ scaled K s (monomial K n c)
monomial-scaled K N n s c = fun_ext (λ i. ⊎_elim
    (λ (e : n ≡ i). subst (λ t. monomial K n (K.times s c) t ≡ K.times s (monomial K n c t)) e (monomial-same K n (K.times s c) ∙ ap (K.times s) (sym (monomial-same K n c))))
    (λ (ne : n ≢ i). monomial-other K n (K.times s c) i ne ∙ sym (scale_zero (itself_is_module K N) s) ∙ ap (K.times s) (sym (monomial-other K n c i ne)))
    (cases_eq n i))

pub scaled-negated_one : {I F : Type 0} (K : FieldOn F) (N : IsField K) (s : F) (a : I → F) → s ≡ K.negated K.one → scaled K s a ≡ opposite K a
scaled-negated_one K N s a e = fun_ext (λ i. ap (λ t. K.times t (a i)) e ∙ ring1 K N (λ x. (negative unit ⊗ x, negative x)) refl (a i))
