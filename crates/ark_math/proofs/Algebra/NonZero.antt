-- Values of a field that aren't zero: their products, powers and quotients.
use Rattle.std.proofs.Common.{◌≡◌, ◌≢◌, ℕ, zero, suc, ◌<◌, ◌⊎◌, sym, ◌∙◌, ap, refl, arith, ⊎_elim}
use Rattle.ark_math.specs.Field.{FieldOn, IsField, IsPlaceQuotient, power, natural, minus}
use Rattle.ark_math.proofs.Algebra.Groups.{itself_is_module, zero_scale}
use Rattle.ark_math.proofs.Algebra.Powers.{zero_factor, times_zero}
use Rattle.ark_math.proofs.Algebra.Solve.{◌⊖◌, ◌⊗◌, nought}
use Rattle.ark_math.proofs.Algebra.Ring.{ring2_by, ring3_by}

module _ {F : Type 0} (K : FieldOn F) (N : IsField K) where
  pub power_not_zero : (x : F) (n : ℕ) → x ≢ K.zero → power K x n ≢ K.zero
  power_not_zero x zero ne e = N.one_not_zero e
  power_not_zero x (suc n) ne e = power_not_zero x n ne (zero_factor K N x (power K x n) ne e)

  pub positive : (n : ℕ) → natural K n ≢ K.zero → 0 < n
  positive zero ne = absurd (ne refl)
  positive (suc n) ne = omega arith

  pub times_not_zero : (x y : F) → x ≢ K.zero → y ≢ K.zero → K.times x y ≢ K.zero
  times_not_zero x y a b e = b (zero_factor K N x y a e)

  pub factor_not_zero : (x y : F) → K.times x y ≡ K.one → x ≢ K.zero
  factor_not_zero x y e z = N.one_not_zero (sym e ∙ ap (λ t. K.times t y) z ∙ zero_scale N (itself_is_module K N) y)

  -- a factor that isn't zero is taken away
  pub cancel_factor : (x a b : F) → x ≢ K.zero → K.times a x ≡ K.times b x → a ≡ b
  cancel_factor x a b ne e =
      ring2_by K N (λ a b. (a, b, a ⊖ b, nought)) refl a b
      (zero_factor K N x (minus K a b) ne (ring3_by K N (λ x a b. (x ⊗ (a ⊖ b), nought, a ⊗ x, b ⊗ x)) refl x a b e))

  pub minus_not_zero : (a b : F) → a ≢ b → minus K a b ≢ K.zero
  minus_not_zero a b ne e = ne (ring2_by K N (λ a b. (a, b, a ⊖ b, nought)) refl a b e)

  pub same_from_minus : (a b : F) → minus K a b ≡ K.zero → a ≡ b
  same_from_minus a b e = ring2_by K N (λ a b. (a, b, a ⊖ b, nought)) refl a b e

  pub minus_same : (a b : F) → a ≡ b → minus K a b ≡ K.zero
  minus_same a b e = ap (λ t. minus K t b) e ∙ N.plus_negated b

pub one_place_quotient : {F : Type 0} (K : FieldOn F) (N : IsField K) (x y z w : F) → (y ≡ K.zero) ⊎ (y ≢ K.zero) → IsPlaceQuotient K x y z → IsPlaceQuotient K x y w → z ≡ w
one_place_quotient K N x y z w cases g h =
    ⊎_elim
    (λ (e : y ≡ K.zero). g.none e ∙ sym (h.none e))
    (λ (ne : y ≢ K.zero). cancel_factor K N y z w ne (g.some ne ∙ sym (h.some ne)))
    cases

-- by the inverse, where zero stays zero
pub place_quotient-times : {F : Type 0} (K : FieldOn F) (N : IsField K) (x y w z : F) → IsPlaceQuotient K K.one y w → z ≡ K.times x w → IsPlaceQuotient K x y z
place_quotient-times K N x y w z h e = record {
  none = λ o. e ∙ ap (K.times x) (h.none o) ∙ times_zero K N x;
  some = λ ne. ap (λ t. K.times t y) e ∙ N.times_assoc x w y ∙ ap (K.times x) (h.some ne) ∙ N.times_one x;
}
