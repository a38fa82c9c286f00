-- Which of a table's roots of unity an element is: of the square roots of a square the first one or the one behind it. And
-- points with zero in place of roots of unity.
use Rattle.std.proofs.Common.{◌≡◌, ◌≢◌, ℕ, zero, suc, ◌+◌, ◌*◌, ◌/◌, ◌<◌, List, length, inl, inr, refl, sym, ◌∙◌, ap, arith}
use Rattle.ark_math.specs.Field.{FieldOn, IsField, minus, power}
use Rattle.ark_math.specs.Univariate.{of_list}
use Rattle.ark_math.proofs.Algebra.Powers.{power_even, times_zero, zero_factor}
use Rattle.ark_math.proofs.Algebra.Ring.{ring2_by}
use Rattle.ark_math.proofs.Algebra.Solve.{◌⊗◌, ◌⊕◌, ◌⊖◌, negative, nought}
use Rattle.ark_bit_reversed.specs.Blocks.{AreReversed, IsPowerOfTwo}
use Rattle.ark_subproducts.specs.Steps.{AreOffRoots, ArePowers, IsOffRoot}
use Rattle.ark_bit_reversed.proofs.Callers.PowersOfTwo.{two_halves}

module _ {F : Type 0} (K : FieldOn F) (N : IsField K) where
  -- a root's square is one of half the order
  pub square_of_root : (r : F) (count : ℕ) → 1 < count → IsPowerOfTwo count → power K r count ≡ K.one → power K (K.times r r) (count / 2) ≡ K.one
  square_of_root r count many two h =
      let halves = two_halves count many two in
      power_even K N r count (λ odd. omega (arith, odd, halves)) ∙ h

  opposite_root : (x r : F) → K.times x x ≡ K.times r r → x ≢ r → r ≡ K.negated x
  opposite_root x r h ne =
      ring2_by K N (λ x r. (r, negative x, x ⊕ r, nought)) refl x r
      (zero_factor K N (minus K x r) (K.plus x r)
      (λ e. ne (ring2_by K N (λ x r. (x, r, x ⊖ r, nought)) refl x r e))
      (ring2_by K N (λ x r. ((x ⊖ r) ⊗ (x ⊕ r), nought, x ⊗ x, r ⊗ r)) refl x r h))

  -- the second root of the square is it where the first isn't
  pub second_root : (n : ℕ) (x : ℕ → F) (j : ℕ) (r : F) → AreReversed K n x → suc (j + j) < n → x j ≡ K.times r r → x (2 * j) ≢ r → x (2 * j + 1) ≡ r
  second_root n x j r rev l h ne =
      let half : 2 * j / 2 ≡ j = omega arith in
      let even : j + j ≡ 2 * j = omega arith in
      let odd : 2 * j + 1 ≡ suc (j + j) = omega arith in
      ap x odd ∙ rev.opposites j l ∙ ap (λ t. K.negated (x t)) even
      ∙ sym (opposite_root (x (2 * j)) r (rev.squares (2 * j) (omega (arith, l)) ∙ ap x half ∙ h) ne)

  power_of_zero : (n : ℕ) → 0 < n → power K K.zero n ≡ K.zero
  power_of_zero zero some = absurd (omega arith)
  power_of_zero (suc n) some = N.times_comm K.zero (power K K.zero n) ∙ times_zero K N (power K K.zero n)

  -- what is off the roots has its powers, and is the points where they are no roots
  module _ (n : ℕ) (some : 0 < n) (points powers others new : List F) (len : length others ≡ length points) (more : length new ≡ length others) (raised : ArePowers K n points powers) (each : (i : ℕ) → i < length points → IsOffRoot K (of_list K points i) (of_list K powers i) (of_list K others i) (of_list K new i)) where
    pub powers_off_roots : ArePowers K n others new
    powers_off_roots = record {
      len = more;
      each = λ i l. elim (each i (omega (arith, l, len))) [
        | inl same ↦ same.1 ∙ raised.each i (omega (arith, l, len)) ∙ ap (λ t. power K t n) (sym same.0)
        | inr none ↦ none.2 ∙ sym (ap (λ t. power K t n) none.1 ∙ power_of_zero n some)
      ];
    }

    pub are_off_roots : AreOffRoots K n points others
    are_off_roots = record {
      len = len;
      each = λ i l. elim (each i l) [
        | inl same ↦ inl same.0
        | inr none ↦ inr (sym (raised.each i l) ∙ none.0)
      ];
    }
