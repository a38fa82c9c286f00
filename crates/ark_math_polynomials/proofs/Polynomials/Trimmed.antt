-- The trimmed list of a list of coefficients: it denotes the same, is trimmed, and a test of its items decides equality.
use Rattle.std.proofs.Common.{◌≡◌, zero, suc, ℕ, ◌-◌, List, [], ◌∷◌, length, Bool, true, false, Decides, if◌then◌else◌, sym, ◌∙◌, ap, refl, subst, arith}
use mathlib.Core.Path.{fun_ext}
use Rattle.std.proofs.lemmas.Bool.{true≢false}
use Rattle.std.specs.Cmp.Lexicographic.{pointwise}
use Rattle.ark_math.specs.Field.{FieldOn}
use Rattle.ark_math.specs.Univariate.{of_list, IsTrimmed}
use Rattle.ark_math_polynomials.specs.NormalForms.{onto, trim}
use Rattle.ark_math_polynomials.proofs.Polynomials.UnivariateLists.{of_list-replicate, trimmed-nil, trimmed-push, same_trimmed, trimmed_Decides}

module _ {F : Type 0} (K : FieldOn F) (z : F → Bool) (decides : (x : F) → Decides (z x) (x ≡ K.zero)) where
  cons-same : (x : F) (c d : List F) → of_list K c ≡ of_list K d → (i : ℕ) → of_list K (x ∷ c) i ≡ of_list K (x ∷ d) i
  cons-same x c d e zero = refl
  cons-same x c d e (suc i) = ap (λ t. t i) e

  nil-same : (x : F) (b : Bool) → z x ≡ b → of_list K (if b then [] else x ∷ []) ≡ of_list K (x ∷ [])
  nil-same x true e = sym (of_list-replicate K 1) ∙ ap (λ t. of_list K (t ∷ [])) (sym ((decides x).0 e))
  nil-same x false e = refl

  onto-same : (x : F) (c : List F) → of_list K (onto z x c) ≡ of_list K (x ∷ c)
  onto-same x [] = nil-same x (z x) refl
  onto-same x (y ∷ c) = refl

  -- trimming changes no coefficient
  pub trim-same : (c : List F) → of_list K (trim z c) ≡ of_list K c
  trim-same [] = refl
  trim-same (x ∷ c) = onto-same x (trim z c) ∙ fun_ext (cons-same x (trim z c) c (trim-same c))

  nil-trimmed : (x : F) (b : Bool) → z x ≡ b → IsTrimmed K (if b then [] else x ∷ [])
  nil-trimmed x true e = trimmed-nil K
  nil-trimmed x false e = trimmed-push K [] x (λ h. let w : true ≡ false = sym ((decides x).1 h) ∙ e in true≢false w)

  onto-trimmed : (x : F) (c : List F) → IsTrimmed K c → IsTrimmed K (onto z x c)
  onto-trimmed x [] t = nil-trimmed x (z x) refl
  onto-trimmed x (y ∷ c) t = λ l h.
      let e : length (x ∷ y ∷ c) - 1 ≡ suc (length (y ∷ c) - 1) = omega arith in
      t (omega arith) (sym (ap (of_list K (x ∷ y ∷ c)) e) ∙ h)

  -- and leaves a trimmed list
  pub trim-trimmed : (c : List F) → IsTrimmed K (trim z c)
  trim-trimmed [] = trimmed-nil K
  trim-trimmed (x ∷ c) = onto-trimmed x (trim z c) (trim-trimmed c)

  pub trim_of-trimmed : (c : List F) → IsTrimmed K c → trim z c ≡ c
  trim_of-trimmed c t = same_trimmed K (trim z c) c (trim-trimmed c) t (trim-same c)

  trim_Decides : {eq : F → F → Bool} → ((a b : F) → Decides (eq a b) (a ≡ b)) → (c d : List F) → Decides (pointwise eq (trim z c) (trim z d)) (of_list K c ≡ of_list K d)
  trim_Decides same c d =
      let w = trimmed_Decides K same (trim z c) (trim z d) (trim-trimmed c) (trim-trimmed d) in
      (λ h. sym (trim-same c) ∙ w.0 h ∙ trim-same d, λ h. w.1 (trim-same c ∙ h ∙ sym (trim-same d)))

module _ {F : Type 0} (K : FieldOn F) (eq : F → F → Bool) (o : F) (same : (a b : F) → Decides (eq a b) (a ≡ b)) (e : o ≡ K.zero) where
  -- a test of equality is one for zero
  pub zero_test : (x : F) → Decides (eq x o) (x ≡ K.zero)
  zero_test x = subst (λ t. Decides (eq x o) (x ≡ t)) e (same x o)

  -- the law of `==` at lists of coefficients, trimmed or not
  pub trim_equality : (c d : List F) → Decides (pointwise eq (trim (λ x. eq x o) c) (trim (λ x. eq x o) d)) (of_list K c ≡ of_list K d)
  trim_equality c d = trim_Decides K (λ x. eq x o) zero_test same c d
