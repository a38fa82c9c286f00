-- Division by x - r, and polynomials with more zeros than their degree.
use Rattle.std.proofs.Common.{◌≡◌, ◌≢◌, ℕ, zero, suc, ◌<◌, ◌≤◌, sym, ◌∙◌, ap, ap₂, refl, arith, ⊎_elim}
use mathlib.Core.Path.{fun_ext}
use Rattle.ark_math.specs.Field.{FieldOn, IsField, minus}
use Rattle.ark_math.specs.Univariate.{nothing, difference, IsBelow, value_below}
use Rattle.std.proofs.lemmas.Bool.{cases_lt}
use Rattle.ark_math.proofs.Algebra.Groups.{itself_is_module, zero_plus}
use Rattle.ark_math.proofs.Algebra.Powers.{zero_factor}
use Rattle.ark_math.proofs.Algebra.Solve.{◌⊕◌, ◌⊖◌, ◌⊗◌, nought, unit}
use Rattle.ark_math.proofs.Algebra.Ring.{ring1_by, ring2_by, ring3, ring5}
use Rattle.ark_math_polynomials.proofs.Polynomials.Univariate.{difference-below, same_below}
use Rattle.ark_math_polynomials.proofs.Polynomials.UnivariateValues.{value_below-first, value_below-difference}

-- the coefficients from 1 on
abbrev rest : {F : Type 0} → (ℕ → F) → ℕ → F
rest a i = a (suc i)

-- the quotient of the first n coefficients by x - r: n - 1 coefficients
abbrev quotient : {F : Type 0} → FieldOn F → F → ℕ → (ℕ → F) → ℕ → F
quotient K r zero a i = K.zero
quotient K r (suc n) a zero = value_below K n (rest a) r
quotient K r (suc n) a (suc i) = quotient K r n (rest a) i

module _ {F : Type 0} (K : FieldOn F) (N : IsField K) where
  quotient-below : (r : F) (n : ℕ) (a : ℕ → F) → IsBelow K n (quotient K r (suc n) a)
  quotient-below r zero a zero l = refl
  quotient-below r zero a (suc i) l = refl
  quotient-below r (suc n) a zero l = absurd (omega arith)
  quotient-below r (suc n) a (suc i) l = quotient-below r n (rest a) i (omega arith)

  -- a x = a r + (x - r) * the quotient at x
  quotient-value : (r : F) (n : ℕ) (a : ℕ → F) (x : F) → value_below K (suc n) a x ≡ K.plus (value_below K (suc n) a r) (K.times (minus K x r) (value_below K n (quotient K r (suc n) a) x))
  quotient-value r zero a x = ring3 K N (λ a x r. (nought ⊕ unit ⊗ a, (nought ⊕ unit ⊗ a) ⊕ (x ⊖ r) ⊗ nought)) refl (a 0) x r
  quotient-value r (suc n) a x =
      value_below-first K N (suc n) a x
      ∙ ap (λ t. K.plus (a 0) (K.times x t)) (quotient-value r n (rest a) x)
      ∙ ring5 K N (λ a x r b q. (a ⊕ x ⊗ (b ⊕ (x ⊖ r) ⊗ q), (a ⊕ r ⊗ b) ⊕ (x ⊖ r) ⊗ (b ⊕ x ⊗ q))) refl (a 0) x r _ _
      ∙ sym (ap₂ (λ u v. K.plus u (K.times (minus K x r) v)) (value_below-first K N (suc n) a r) (value_below-first K N n (quotient K r (suc (suc n)) a) x))

  -- nothing is left where the quotient and the value at r are zero
  quotient-nothing : (r : F) (n : ℕ) (a : ℕ → F) → value_below K (suc n) a r ≡ K.zero → ((i : ℕ) → quotient K r (suc n) a i ≡ K.zero) → (i : ℕ) → i < suc n → a i ≡ K.zero
  quotient-nothing r zero a e h zero l = ring1_by K N (λ a. (a, nought, nought ⊕ unit ⊗ a, nought)) refl (a 0) e
  quotient-nothing r zero a e h (suc i) l = absurd (omega arith)
  quotient-nothing r (suc n) a e h zero l =
      ring2_by K N (λ a r. (a, nought, a ⊕ r ⊗ nought, nought)) refl (a 0) r
      (ap (λ t. K.plus (a 0) (K.times r t)) (sym (h 0)) ∙ sym (value_below-first K N (suc n) a r) ∙ e)
  quotient-nothing r (suc n) a e h (suc i) l = quotient-nothing r n (rest a) (h 0) (λ j. h (suc j)) i (omega arith)

  -- n different zeros and n coefficients
  pub zeros_below : (n : ℕ) (a : ℕ → F) (p : ℕ → F) → ((i j : ℕ) → i < j → j < n → p i ≢ p j) → ((i : ℕ) → i < n → value_below K n a (p i) ≡ K.zero) → (i : ℕ) → i < n → a i ≡ K.zero
  zeros_below zero a p different zeros i l = absurd (omega arith)
  zeros_below (suc n) a p different zeros i l =
      let r = p n in
      let q = quotient K r (suc n) a in
      let here : value_below K (suc n) a r ≡ K.zero = zeros n (omega arith) in
      let there : (j : ℕ) → j < n → value_below K n q (p j) ≡ K.zero = λ j b.
      zero_factor K N (minus K (p j) r) (value_below K n q (p j))
      (λ e. different j n b (omega arith) (ring2_by K N (λ x r. (x, r, x ⊖ r, nought)) refl (p j) r e))
      (sym (zero_plus (itself_is_module K N) (K.times (minus K (p j) r) (value_below K n q (p j))))
      ∙ ap (λ t. K.plus t (K.times (minus K (p j) r) (value_below K n q (p j)))) (sym here)
      ∙ sym (quotient-value r n a (p j))
      ∙ zeros j (omega arith)) in
      quotient-nothing r n a here
      (λ j. ⊎_elim
      (λ (b : j < n). zeros_below n q p (λ u v s t. different u v s (omega arith)) there j b)
      (λ (b : n ≤ j). quotient-below r n a j b)
      (cases_lt j n))
      i l

  -- a polynomial below n with n different zeros is zero
  pub zeros_nothing : (n : ℕ) (a : ℕ → F) (p : ℕ → F) → IsBelow K n a → ((i j : ℕ) → i < j → j < n → p i ≢ p j) → ((i : ℕ) → i < n → value_below K n a (p i) ≡ K.zero) → a ≡ nothing K
  zeros_nothing n a p b different zeros = same_below K n a (nothing K) b (λ i l. refl) (zeros_below n a p different zeros)

  -- two polynomials below n with the same values at n different points are the same
  pub same_from_values : (n : ℕ) (a b : ℕ → F) (p : ℕ → F) → IsBelow K n a → IsBelow K n b → ((i j : ℕ) → i < j → j < n → p i ≢ p j) → ((i : ℕ) → i < n → value_below K n a (p i) ≡ value_below K n b (p i)) → a ≡ b
  same_from_values n a b p f g different same =
      let none : difference K a b ≡ nothing K =
      zeros_nothing n (difference K a b) p (difference-below K N n a b f g) different
      (λ i l. value_below-difference K N n a b (p i) ∙ ap (λ t. minus K t (value_below K n b (p i))) (same i l) ∙ N.plus_negated (value_below K n b (p i))) in
      fun_ext (λ i. ring2_by K N (λ x y. (x, y, x ⊖ y, nought)) refl (a i) (b i) (ap (λ t. t i) none))
