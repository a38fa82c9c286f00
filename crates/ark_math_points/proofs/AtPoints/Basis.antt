-- Products of x - x j for the j below n other than i: their values, and that they have no other zeros.
use Rattle.std.proofs.Common.{◌≡◌, ◌≢◌, ℕ, zero, suc, ◌+◌, ◌<◌, ◌≤◌, ◌==◌, [], ◌∷◌, if◌then◌else◌, refl, sym, ◌∙◌, ap, subst, arith, add-one, ⊎_elim, eqb}
use Rattle.std.proofs.lemmas.Bool.{cases_eq, cases_lt, cond-true, cond-false, eq-eqb, ne_eqb}
use Rattle.ark_math.specs.Field.{FieldOn, IsField, minus, product_below}
use Rattle.ark_math_polynomials.specs.Linear.{linear_factor}
use Rattle.ark_math.specs.Univariate.{IsBelow, IsValue, monomial, product}
use Rattle.ark_math.proofs.Algebra.Powers.{times_zero, zero_factor}
use Rattle.ark_math.proofs.Algebra.Ring.{ring2, ring2_by}
use Rattle.ark_math.proofs.Algebra.Solve.{◌⊗◌, ◌⊕◌, ◌⊖◌, negative, nought, unit}
use Rattle.ark_math_polynomials.proofs.Polynomials.Univariate.{IsBelow-more, monomial-below}
use Rattle.ark_math_polynomials.proofs.Polynomials.UnivariateLists.{of_list-below}
use Rattle.ark_math_polynomials.proofs.Polynomials.UnivariateProducts.{product-below, value-product}
use Rattle.ark_math_polynomials.proofs.Polynomials.UnivariateValues.{value-monomial, value-of_list}
use Rattle.ark_math_points.specs.AtPoints.{AreDifferent, differences}

-- the product as a polynomial
abbrev pub basis : {F : Type 0} → FieldOn F → (ℕ → F) → ℕ → ℕ → ℕ → F
basis K x i zero = monomial K 0 K.one
basis K x i (suc n) = if n == i then basis K x i n else product K (basis K x i n) (linear_factor K (x n))

-- the factor of place j
abbrev pub factor : {F : Type 0} → FieldOn F → (ℕ → F) → ℕ → F → ℕ → F
factor K x i t j = if j == i then K.one else minus K t (x j)

module _ {F : Type 0} (K : FieldOn F) where
  pub basis-same : (x : ℕ → F) (i n : ℕ) → n ≡ i → basis K x i (suc n) ≡ basis K x i n
  basis-same x i n e = cond-true (eqb n i) (basis K x i n) (product K (basis K x i n) (linear_factor K (x n))) (eq-eqb n i e)

  pub basis-other : (x : ℕ → F) (i n : ℕ) → n ≢ i → basis K x i (suc n) ≡ product K (basis K x i n) (linear_factor K (x n))
  basis-other x i n ne = cond-false (eqb n i) (basis K x i n) (product K (basis K x i n) (linear_factor K (x n))) (ne_eqb n i ne)

  pub factor-same : (x : ℕ → F) (i : ℕ) (t : F) (j : ℕ) → j ≡ i → factor K x i t j ≡ K.one
  factor-same x i t j e = cond-true (eqb j i) K.one (minus K t (x j)) (eq-eqb j i e)

  pub factor-other : (x : ℕ → F) (i : ℕ) (t : F) (j : ℕ) → j ≢ i → factor K x i t j ≡ minus K t (x j)
  factor-other x i t j ne = cond-false (eqb j i) K.one (minus K t (x j)) (ne_eqb j i ne)

  pub differences-other : (x : ℕ → F) (i n : ℕ) (t : F) → n ≢ i → differences K x i (n + 1) t ≡ K.times (differences K x i n t) (minus K t (x n))
  differences-other x i n t ne = ap (λ m. differences K x i m t) (add-one n) ∙ ap (K.times (differences K x i n t)) (factor-other x i t n ne)

module _ {F : Type 0} (K : FieldOn F) (N : IsField K) where
  pub differences-same : (x : ℕ → F) (i n : ℕ) (t : F) → n ≡ i → differences K x i (n + 1) t ≡ differences K x i n t
  differences-same x i n t e = ap (λ m. differences K x i m t) (add-one n) ∙ ap (K.times (differences K x i n t)) (factor-same K x i t n e) ∙ N.times_one (differences K x i n t)

  -- the value of x - z
  pub line_value : (z t : F) → IsValue K (linear_factor K z) t (minus K t z)
  line_value z t =
      subst (IsValue K (linear_factor K z) t)
      (ring2 K N (λ z t. ((nought ⊕ unit ⊗ negative z) ⊕ (t ⊗ unit) ⊗ unit, t ⊖ z)) refl z t)
      (value-of_list K N (K.negated z ∷ K.one ∷ []) t)

  pub same_points : (s t : F) → minus K s t ≡ K.zero → s ≡ t
  same_points s t e = ring2_by K N (λ s t. (s, t, s ⊖ t, nought)) refl s t e

  basis-short : (x : ℕ → F) (i n : ℕ) → IsBelow K (suc n) (basis K x i n)
  basis-short x i zero = monomial-below K 0 1 K.one (omega arith)
  basis-short x i (suc n) =
      ⊎_elim
      (λ (e : n ≡ i). subst (IsBelow K (suc (suc n))) (sym (basis-same K x i n e)) (IsBelow-more K (suc n) (suc (suc n)) (basis K x i n) (omega arith) (basis-short x i n)))
      (λ (ne : n ≢ i). subst (IsBelow K (suc (suc n))) (sym (basis-other K x i n ne))
      (λ k l. product-below K N (suc n) 2 (basis K x i n) (linear_factor K (x n)) (basis-short x i n) (of_list-below K (K.negated (x n) ∷ K.one ∷ [])) k (omega arith)))
      (cases_eq n i)

  -- one factor is left out
  pub basis-below : (x : ℕ → F) (i n : ℕ) → i < n → IsBelow K n (basis K x i n)
  basis-below x i zero l = absurd (omega arith)
  basis-below x i (suc n) l =
      ⊎_elim
      (λ (e : n ≡ i). subst (IsBelow K (suc n)) (sym (basis-same K x i n e)) (basis-short x i n))
      (λ (ne : n ≢ i). subst (IsBelow K (suc n)) (sym (basis-other K x i n ne))
      (λ k b. product-below K N n 2 (basis K x i n) (linear_factor K (x n)) (basis-below x i n (omega arith)) (of_list-below K (K.negated (x n) ∷ K.one ∷ [])) k (omega arith)))
      (cases_eq n i)

  pub basis-value : (x : ℕ → F) (i n : ℕ) (t : F) → IsValue K (basis K x i n) t (differences K x i n t)
  basis-value x i zero t = subst (IsValue K (monomial K 0 K.one) t) (N.times_one K.one) (value-monomial K N 0 K.one t)
  basis-value x i (suc n) t =
      ⊎_elim
      (λ (e : n ≡ i). subst (λ p. IsValue K p t (differences K x i (suc n) t)) (sym (basis-same K x i n e))
      (subst (IsValue K (basis K x i n) t) (sym (N.times_one (differences K x i n t)) ∙ ap (K.times (differences K x i n t)) (sym (factor-same K x i t n e))) (basis-value x i n t)))
      (λ (ne : n ≢ i). subst (λ p. IsValue K p t (differences K x i (suc n) t)) (sym (basis-other K x i n ne))
      (subst (IsValue K (product K (basis K x i n) (linear_factor K (x n))) t) (ap (K.times (differences K x i n t)) (sym (factor-other K x i t n ne)))
      (value-product K N (basis K x i n) (linear_factor K (x n)) t (differences K x i n t) (minus K t (x n)) (basis-value x i n t) (line_value (x n) t))))
      (cases_eq n i)

  product_zero : (n : ℕ) (f : ℕ → F) (j : ℕ) → j < n → f j ≡ K.zero → product_below K n f ≡ K.zero
  product_zero zero f j l e = absurd (omega arith)
  product_zero (suc n) f j l e =
      ⊎_elim
      (λ (same : j ≡ n). ap (λ k. K.times (product_below K n f) (f k)) (sym same) ∙ ap (K.times (product_below K n f)) e ∙ times_zero K N (product_below K n f))
      (λ (ne : j ≢ n). ap (λ t. K.times t (f n)) (product_zero n f j (omega arith) e) ∙ N.times_comm K.zero (f n) ∙ times_zero K N (f n))
      (cases_eq j n)

  product_some : (n : ℕ) (f : ℕ → F) → ((j : ℕ) → j < n → f j ≢ K.zero) → product_below K n f ≢ K.zero
  product_some zero f some e = N.one_not_zero e
  product_some (suc n) f some e =
      some n (omega arith) (zero_factor K N (product_below K n f) (f n) (product_some n f (λ j l. some j (omega arith))) e)

  -- zero at each other point
  pub differences-zero : (x : ℕ → F) (i n j : ℕ) → j < n → j ≢ i → differences K x i n (x j) ≡ K.zero
  differences-zero x i n j l ne = product_zero n (factor K x i (x j)) j l (factor-other K x i (x j) j ne ∙ N.plus_negated (x j))

  -- and not at the own one
  pub differences-some : (x : ℕ → F) (i n : ℕ) → AreDifferent n x → i < n → differences K x i n (x i) ≢ K.zero
  differences-some x i n different l =
      product_some n (factor K x i (x i)) (λ j b e.
      ⊎_elim
      (λ (same : j ≡ i). N.one_not_zero (sym (factor-same K x i (x i) j same) ∙ e))
      (λ (ne : j ≢ i). apart x i n j different l b ne (same_points (x i) (x j) (sym (factor-other K x i (x i) j ne) ∙ e)))
      (cases_eq j i))
    where
      apart : (x : ℕ → F) (i n j : ℕ) → AreDifferent n x → i < n → j < n → j ≢ i → x i ≢ x j
      apart x i n j different l b ne e =
          ⊎_elim
          (λ (below : i < j). different i j below b e)
          (λ (above : j ≤ i). different j i (omega arith) l (sym e))
          (cases_lt i j)
