-- Sums of the powers of a root of one.
use Rattle.std.proofs.Common.{◌≡◌, ◌≢◌, ℕ, zero, suc, ◌+◌, ◌-◌, ◌<◌, ◌≤◌, sym, ◌∙◌, ap, refl, arith, ⊎_elim}
use Rattle.std.proofs.lemmas.Bool.{cases_lt}
use Rattle.ark_math.specs.Field.{FieldOn, IsField, power, natural}
use Rattle.ark_math.specs.Module.{ModuleOn, IsModule, itself, sum_below}
use Rattle.ark_math.specs.Root.{HasOrder}
use Rattle.ark_math_transforms.proofs.Transforms.Places.{dft_at}
use Rattle.ark_math.proofs.Algebra.Groups.{zero_scale}
use Rattle.ark_math.proofs.Algebra.Powers.{times_zero, zero_factor, power-one, power-add, power_comm, power-times, powers_inverse}
use Rattle.ark_math.proofs.Algebra.Sums.{sum_below-same, sum_below-scale}
use Rattle.ark_math.proofs.Algebra.Regrouped.{sum_below-swap, sum_below-single, sum_of_scalars}
use Rattle.ark_math.proofs.Algebra.Solve.{◌⊕◌, ◌⊖◌, ◌⊗◌, unit}
use Rattle.ark_math.proofs.Algebra.Ring.{ring1, ring2, ring3}

module _ {F : Type 0} (K : FieldOn F) (N : IsField K) where
  -- x * (1 + x + .. + x ^ (n - 1)) + 1 = (1 + x + .. + x ^ (n - 1)) + x ^ n
  pub geometric : (x : F) (n : ℕ) → K.plus (K.times x (sum_below (itself K) n (power K x))) K.one ≡ K.plus (sum_below (itself K) n (power K x)) (power K x n)
  geometric x zero = ap (λ t. K.plus t K.one) (times_zero K N x)
  geometric x (suc n) =
      ring3 K N (λ x s p. (x ⊗ (s ⊕ p) ⊕ unit, (x ⊗ s ⊕ unit) ⊕ x ⊗ p)) refl x (sum_below (itself K) n (power K x)) (power K x n)
      ∙ ap (λ t. K.plus t (K.times x (power K x n))) (geometric x n)

  pub geometric_zero : (x : F) (n : ℕ) → power K x n ≡ K.one → x ≢ K.one → sum_below (itself K) n (power K x) ≡ K.zero
  geometric_zero x n e ne =
      let s = sum_below (itself K) n (power K x) in
      let h : K.plus (K.times x s) K.one ≡ K.plus s K.one = geometric x n ∙ ap (K.plus s) e in
      zero_factor K N (K.plus x (K.negated K.one)) s
      (λ z. ne (ring1 K N (λ x. (x, (x ⊖ unit) ⊕ unit)) refl x ∙ (ap (λ t. K.plus t K.one) z ∙ (N.plus_comm K.zero K.one ∙ N.plus_zero K.one))))
      (ring2 K N (λ x s. ((x ⊖ unit) ⊗ s, (x ⊗ s ⊕ unit) ⊖ (s ⊕ unit))) refl x s
      ∙ (ap (λ t. K.plus t (K.negated (K.plus s K.one))) h ∙ N.plus_negated (K.plus s K.one)))

  pub geometric_one : (x : F) (n : ℕ) → x ≡ K.one → sum_below (itself K) n (power K x) ≡ natural K n
  geometric_one x zero e = refl
  geometric_one x (suc n) e =
      ap (K.plus (sum_below (itself K) n (power K x))) (ap (λ t. power K t n) e ∙ power-one K N n)
      ∙ ap (λ t. K.plus t K.one) (geometric_one x n e)

  module _ (w v : F) (n : ℕ) (o : HasOrder K w n) (inverse : K.times w v ≡ K.one) where
    inverse_power : (k : ℕ) → power K w k ≡ K.one → power K v k ≡ K.one
    inverse_power k e = sym (N.times_one (power K v k)) ∙ (N.times_comm (power K v k) K.one ∙ (ap (λ t. K.times t (power K v k)) (sym e) ∙ powers_inverse K N w v k inverse))

    of_inverse : (k : ℕ) → power K v k ≡ K.one → power K w k ≡ K.one
    of_inverse k e = sym (N.times_one (power K w k)) ∙ (ap (K.times (power K w k)) (sym e) ∙ powers_inverse K N w v k inverse)

    pub order_of_inverse : HasOrder K v n
    order_of_inverse = record { one = inverse_power n o.one; least = λ k pos l e. o.least k pos l (of_inverse k e) }

    step : (j k : ℕ) → j < k → k < n → (x : F) → K.times (power K w j) x ≡ K.one → K.times (power K w k) x ≢ K.one
    step j k l m x e f =
        let p : k ≡ k - j + j = omega arith in
        o.least (k - j) (omega arith) (omega arith)
        (sym (N.times_one (power K w (k - j)))
        ∙ (ap (K.times (power K w (k - j))) (sym e)
        ∙ (sym (N.times_assoc (power K w (k - j)) (power K w j) x)
        ∙ (ap (λ t. K.times t x) (sym (ap (power K w) p ∙ power-add K N w (k - j) j)) ∙ f))))

    quotient_not_one : (j k : ℕ) → j < n → k < n → j ≢ k → K.times (power K w j) (power K v k) ≢ K.one
    quotient_not_one j k a b ne e =
        ⊎_elim
        (λ (l : j < k). step j k l b (power K v k) e (powers_inverse K N w v k inverse))
        (λ (l : k ≤ j). step k j (omega arith) a (power K v k) (powers_inverse K N w v k inverse) e)
        (cases_lt j k)

    quotient_root : (j k : ℕ) → power K (K.times (power K w j) (power K v k)) n ≡ K.one
    quotient_root j k =
        power-times K N (power K w j) (power K v k) n
        ∙ (ap (λ t. K.times t (power K (power K v k) n)) (power_comm K N w j n ∙ (ap (λ t. power K t j) o.one ∙ power-one K N j))
        ∙ (ap (K.times K.one) (power_comm K N v k n ∙ (ap (λ t. power K t k) (inverse_power n o.one) ∙ power-one K N k))
        ∙ N.times_one K.one))

    pub quotients_zero : (j k : ℕ) → j < n → k < n → j ≢ k → sum_below (itself K) n (power K (K.times (power K w j) (power K v k))) ≡ K.zero
    quotients_zero j k a b ne = geometric_zero (K.times (power K w j) (power K v k)) n (quotient_root j k) (quotient_not_one j k a b ne)

    pub quotients_one : (k : ℕ) → sum_below (itself K) n (power K (K.times (power K w k) (power K v k))) ≡ natural K n
    quotients_one k = geometric_one (K.times (power K w k) (power K v k)) n (powers_inverse K N w v k inverse)

module _ {F M : Type 0} {K : FieldOn F} {V : ModuleOn F M} (N : IsField K) (L : IsModule K V) where
  -- back and forth: n times each item
  pub returned : (w v : F) (n : ℕ) → HasOrder K w n → K.times w v ≡ K.one → (f : ℕ → M) (k : ℕ) → k < n → dft_at K V n v (dft_at K V n w f) k ≡ V.scale (natural K n) (f k)
  returned w v n o inverse f k l =
      let x : ℕ → F = λ j. K.times (power K w j) (power K v k) in
      let inner : (i : ℕ) → V.scale (power K (power K v k) i) (dft_at K V n w f i) ≡ sum_below V n (λ j. V.scale (power K (x j) i) (f j)) = λ i.
      sym (sum_below-scale L n (power K (power K v k) i) (λ j. V.scale (power K (power K w i) j) (f j)))
      ∙ sum_below-same V n (λ j. V.scale (power K (power K v k) i) (V.scale (power K (power K w i) j) (f j))) (λ j. V.scale (power K (x j) i) (f j))
      (λ j b. sym (L.times_scale (power K (power K v k) i) (power K (power K w i) j) (f j))
      ∙ ap (λ t. V.scale t (f j))
      (N.times_comm (power K (power K v k) i) (power K (power K w i) j)
      ∙ (ap (λ t. K.times t (power K (power K v k) i)) (power_comm K N w i j)
      ∙ sym (power-times K N (power K w j) (power K v k) i)))) in
      sum_below-same V n (λ i. V.scale (power K (power K v k) i) (dft_at K V n w f i)) (λ i. sum_below V n (λ j. V.scale (power K (x j) i) (f j))) (λ i b. inner i)
      ∙ (sum_below-swap L n n (λ i j. V.scale (power K (x j) i) (f j))
      ∙ (sum_below-same V n (λ j. sum_below V n (λ i. V.scale (power K (x j) i) (f j))) (λ j. V.scale (sum_below (itself K) n (power K (x j))) (f j)) (λ j b. sum_of_scalars N L n (power K (x j)) (f j))
      ∙ (sum_below-single L n k (λ j. V.scale (sum_below (itself K) n (power K (x j))) (f j)) l
      (λ j b ne. ap (λ t. V.scale t (f j)) (quotients_zero K N w v n o inverse j k b l ne) ∙ zero_scale N L (f j))
      ∙ ap (λ t. V.scale t (f k)) (quotients_one K N w v n o inverse k))))
