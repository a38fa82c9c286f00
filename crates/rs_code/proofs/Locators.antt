-- Polynomials over a module by their coefficients, times a product of factors x - r, and x times their derivatives.
use Rattle.std.proofs.Common.{◌≡◌, ℕ, zero, suc, ◌+◌, ◌<◌, ◌≤◌, List, [], ◌∷◌, length, sym, ◌∙◌, ap, ap₂, refl, arith}
use Rattle.ark_math.specs.Field.{FieldOn, IsField, power, natural, minus}
use Rattle.ark_math.specs.Module.{ModuleOn, IsModule, sum_below}
use Rattle.rs_code.specs.Locator.{locator_at, derivative_at, euler, by_factor, by_factors}
use Rattle.ark_math.proofs.Algebra.Groups.{scale_zero}
use Rattle.ark_math.proofs.Algebra.Sums.{sum_below-same, sum_below-plus}
use Rattle.ark_math.proofs.Algebra.Solve.{Scalar, Vector, scalar_at, vector_at, vector, solve_vector, ◌⊕◌, ◌⊖◌, ◌⊗◌, ◌⊞◌, ◌•◌, negative, unit, nought, origin}
use Rattle.ark_math.proofs.Algebra.Ring.{VectorSides, IsVectorSolved, module2_1, module2_2}

-- the value at x of the polynomial with the first n of the coefficients a 0, a 1, ..
abbrev pub value : {F M : Type 0} → FieldOn F → ModuleOn F M → ℕ → (ℕ → M) → F → M
value K V n a x = sum_below V n (λ i. V.scale (power K x i) (a i))

-- zero from n on
abbrev pub IsShort : {F M : Type 0} → ModuleOn F M → ℕ → (ℕ → M) → Type 0
IsShort V n a = (i : ℕ) → n ≤ i → a i ≡ V.zero

module _ {F M : Type 0} {K : FieldOn F} {V : ModuleOn F M} (N : IsField K) (L : IsModule K V) where
  module3_3 : (same : Scalar → Scalar → Scalar → Vector → Vector → Vector → VectorSides) → IsVectorSolved (same (scalar_at 0) (scalar_at 1) (scalar_at 2) (vector_at 0) (vector_at 1) (vector_at 2)) → (a b c : F) (x y z : M) → vector K V (a ∷ b ∷ c ∷ []) (x ∷ y ∷ z ∷ []) (same (scalar_at 0) (scalar_at 1) (scalar_at 2) (vector_at 0) (vector_at 1) (vector_at 2)).0 ≡ vector K V (a ∷ b ∷ c ∷ []) (x ∷ y ∷ z ∷ []) (same (scalar_at 0) (scalar_at 1) (scalar_at 2) (vector_at 0) (vector_at 1) (vector_at 2)).1
  module3_3 same holds a b c x y z = solve_vector N L (a ∷ b ∷ c ∷ []) (x ∷ y ∷ z ∷ []) (same (scalar_at 0) (scalar_at 1) (scalar_at 2) (vector_at 0) (vector_at 1) (vector_at 2)).0 (same (scalar_at 0) (scalar_at 1) (scalar_at 2) (vector_at 0) (vector_at 1) (vector_at 2)).1 holds

  module4_2 : (same : Scalar → Scalar → Scalar → Scalar → Vector → Vector → VectorSides) → IsVectorSolved (same (scalar_at 0) (scalar_at 1) (scalar_at 2) (scalar_at 3) (vector_at 0) (vector_at 1)) → (a b c d : F) (x y : M) → vector K V (a ∷ b ∷ c ∷ d ∷ []) (x ∷ y ∷ []) (same (scalar_at 0) (scalar_at 1) (scalar_at 2) (scalar_at 3) (vector_at 0) (vector_at 1)).0 ≡ vector K V (a ∷ b ∷ c ∷ d ∷ []) (x ∷ y ∷ []) (same (scalar_at 0) (scalar_at 1) (scalar_at 2) (scalar_at 3) (vector_at 0) (vector_at 1)).1
  module4_2 same holds a b c d x y = solve_vector N L (a ∷ b ∷ c ∷ d ∷ []) (x ∷ y ∷ []) (same (scalar_at 0) (scalar_at 1) (scalar_at 2) (scalar_at 3) (vector_at 0) (vector_at 1)).0 (same (scalar_at 0) (scalar_at 1) (scalar_at 2) (scalar_at 3) (vector_at 0) (vector_at 1)).1 holds

  -- ---- values

  pub value-same : (n : ℕ) (a b : ℕ → M) (x : F) → ((i : ℕ) → i < n → a i ≡ b i) → value K V n a x ≡ value K V n b x
  value-same n a b x h = sum_below-same V n (λ i. V.scale (power K x i) (a i)) (λ i. V.scale (power K x i) (b i)) (λ i l. ap (V.scale (power K x i)) (h i l))

  pub value-plus : (n : ℕ) (a b : ℕ → M) (x : F) → value K V n (λ i. V.plus (a i) (b i)) x ≡ V.plus (value K V n a x) (value K V n b x)
  value-plus n a b x =
      sum_below-same V n (λ i. V.scale (power K x i) (V.plus (a i) (b i))) (λ i. V.plus (V.scale (power K x i) (a i)) (V.scale (power K x i) (b i))) (λ i l. L.scale_plus (power K x i) (a i) (b i))
      ∙ sum_below-plus L n (λ i. V.scale (power K x i) (a i)) (λ i. V.scale (power K x i) (b i))

  by_factor-sum : (n : ℕ) (r x : F) (a : ℕ → M) → value K V (suc n) (by_factor K V r a) x ≡ V.plus (V.scale x (value K V n a x)) (V.scale (K.negated r) (value K V (suc n) a x))
  by_factor-sum zero r x a =
      module2_1 N L (λ r x a. (origin ⊞ unit • (negative r • a), x • origin ⊞ negative r • (origin ⊞ unit • a))) refl r x (a 0)
  by_factor-sum (suc n) r x a =
      ap (λ t. V.plus t (V.scale (power K x (suc n)) (by_factor K V r a (suc n)))) (by_factor-sum n r x a)
      ∙ module3_3 (λ r x p v a b. ((x • v ⊞ negative r • (v ⊞ p • a)) ⊞ (x ⊗ p) • (a ⊞ negative r • b), x • (v ⊞ p • a) ⊞ negative r • ((v ⊞ p • a) ⊞ (x ⊗ p) • b))) refl r x (power K x n) (value K V n a x) (a n) (a (suc n))

  pub by_factor-value : (m n : ℕ) (r x : F) (a : ℕ → M) → IsShort V m a → m < n → value K V n (by_factor K V r a) x ≡ V.scale (minus K x r) (value K V n a x)
  by_factor-value m zero r x a short l = absurd (omega arith)
  by_factor-value m (suc n) r x a short l =
      let last : value K V (suc n) a x ≡ value K V n a x =
      ap (V.plus (value K V n a x)) (ap (V.scale (power K x n)) (short n (omega arith)) ∙ scale_zero L (power K x n)) ∙ L.plus_zero (value K V n a x) in
      by_factor-sum n r x a
      ∙ ap (λ t. V.plus (V.scale x t) (V.scale (K.negated r) (value K V (suc n) a x))) (sym last)
      ∙ module2_1 N L (λ x r v. (x • v ⊞ negative r • v, (x ⊖ r) • v)) refl x r (value K V (suc n) a x)

  -- ---- how many coefficients there are

  by_factor-short : (m : ℕ) (r : F) (a : ℕ → M) → IsShort V m a → IsShort V (suc m) (by_factor K V r a)
  by_factor-short m r a short zero l = absurd (omega arith)
  by_factor-short m r a short (suc i) l =
      ap₂ (λ s t. V.plus s (V.scale (K.negated r) t)) (short i (omega arith)) (short (suc i) (omega arith))
      ∙ ap (V.plus V.zero) (scale_zero L (K.negated r))
      ∙ L.plus_zero V.zero

  pub by_factors-short : (m n : ℕ) (rs : List F) (a : ℕ → M) → IsShort V m a → m + length rs ≤ n → IsShort V n (by_factors K V rs a)
  by_factors-short m n [] a short l i b = short i (omega arith)
  by_factors-short m zero (r ∷ rs) a short l i b = absurd (omega arith)
  by_factors-short m (suc n) (r ∷ rs) a short l i b =
      by_factor-short n r (by_factors K V rs a) (by_factors-short m n rs a short (omega arith)) i b

  pub euler-short : (n : ℕ) (a : ℕ → M) → IsShort V n a → IsShort V n (euler K V a)
  euler-short n a short i l = ap (V.scale (natural K i)) (short i l) ∙ scale_zero L (natural K i)

  -- ---- the values of products and of x times their derivatives

  pub by_factors-value : (m n : ℕ) (rs : List F) (x : F) (a : ℕ → M) → IsShort V m a → m + length rs ≤ n → value K V n (by_factors K V rs a) x ≡ V.scale (locator_at K rs x) (value K V n a x)
  by_factors-value m n [] x a short l = sym (L.one_scale (value K V n a x))
  by_factors-value m n (r ∷ rs) x a short l =
      by_factor-value (m + length rs) n r x (by_factors K V rs a) (by_factors-short m (m + length rs) rs a short (omega arith)) (omega arith)
      ∙ ap (V.scale (minus K x r)) (by_factors-value m n rs x a short (omega arith))
      ∙ sym (L.times_scale (minus K x r) (locator_at K rs x) (value K V n a x))

  -- the product rule for one factor
  euler-by_factor : (r : F) (a : ℕ → M) (i : ℕ) → euler K V (by_factor K V r a) i ≡ V.plus (by_factor K V K.zero a i) (by_factor K V r (euler K V a) i)
  euler-by_factor r a zero =
      module2_1 N L (λ r o a. (nought • (negative r • a), negative nought • a ⊞ negative r • (nought • a))) refl r K.one (a 0)
  euler-by_factor r a (suc i) =
      module2_2 N L (λ r q a b. ((q ⊕ unit) • (a ⊞ negative r • b), (a ⊞ negative nought • b) ⊞ (q • a ⊞ negative r • ((q ⊕ unit) • b)))) refl r (natural K i) (a i) (a (suc i))

  -- the product rule for all of them
  pub euler-value : (m n : ℕ) (rs : List F) (x : F) (a : ℕ → M) → IsShort V m a → m + length rs ≤ n → value K V n (euler K V (by_factors K V rs a)) x ≡ V.plus (V.scale (K.times x (derivative_at K rs x)) (value K V n a x)) (V.scale (locator_at K rs x) (value K V n (euler K V a) x))
  euler-value m n [] x a short l =
      module2_2 N L (λ x q a b. (b, (x ⊗ nought) • a ⊞ unit • b)) refl x K.one (value K V n a x) (value K V n (euler K V a) x)
  euler-value m n (r ∷ rs) x a short l =
      let b = by_factors K V rs a in
      let before : IsShort V (m + length rs) b = by_factors-short m (m + length rs) rs a short (omega arith) in
      value-same n (euler K V (by_factor K V r b)) (λ i. V.plus (by_factor K V K.zero b i) (by_factor K V r (euler K V b) i)) x (λ i _. euler-by_factor r b i)
      ∙ value-plus n (by_factor K V K.zero b) (by_factor K V r (euler K V b)) x
      ∙ ap₂ V.plus
      (by_factor-value (m + length rs) n K.zero x b before (omega arith)
      ∙ ap (V.scale (minus K x K.zero)) (by_factors-value m n rs x a short (omega arith)))
      (by_factor-value (m + length rs) n r x (euler K V b) (euler-short (m + length rs) b before) (omega arith)
      ∙ ap (V.scale (minus K x r)) (euler-value m n rs x a short (omega arith)))
      ∙ module4_2 (λ x e f c u v. ((x ⊖ nought) • (e • u) ⊞ c • ((x ⊗ f) • u ⊞ e • v), (x ⊗ (e ⊕ c ⊗ f)) • u ⊞ (c ⊗ e) • v)) refl x (locator_at K rs x) (derivative_at K rs x) (minus K x r) (value K V n a x) (value K V n (euler K V a) x)
