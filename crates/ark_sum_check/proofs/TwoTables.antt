-- Products of one table and of two.
use Rattle.std.proofs.Common.{◌≡◌, ℕ, suc, ◌+◌, ◌*◌, ◌^◌, ◌<◌, List, [], ◌∷◌, get_or, length, refl, ◌∙◌, ap, ap₂, arith}
use Rattle.ark_math.specs.Field.{FieldOn, IsField, minus, natural}
use Rattle.ark_math.specs.Module.{itself, sum_below}
use Rattle.ark_math_variables.specs.Multilinear.{extension, fixed, weight}
use Rattle.ark_math.specs.Univariate.{nothing}
use Rattle.ark_math.proofs.Algebra.Sums.{sum_below-same}
use Rattle.ark_math.proofs.Algebra.Solve.{nought, unit, ◌⊕◌, ◌⊖◌, ◌⊗◌}
use Rattle.ark_math.proofs.Algebra.Ring.{ring2}
use Rattle.ark_math_variables.proofs.Polynomials.Multilinear.{fixed-one}
use Rattle.ark_sum_check.specs.Cube.{all_of, bound_to, combined, cube_sum, product_of, sum_at}

module _ {F : Type 0} (K : FieldOn F) (N : IsField K) where
  unscaled : (v : F) → K.plus (K.times K.one v) K.zero ≡ v
  unscaled v = N.plus_zero (K.times K.one v) ∙ N.times_comm K.one v ∙ N.times_one v

  pub combined-one : (v : ℕ → F) → combined K (all_of K 1) v ≡ v 0
  combined-one v = unscaled (K.times (v 0) K.one) ∙ N.times_one (v 0)

  combined-two : (v : ℕ → F) → combined K (all_of K 2) v ≡ K.times (v 0) (v 1)
  combined-two v = unscaled (K.times (v 0) (K.times (v 1) K.one)) ∙ ap (K.times (v 0)) (N.times_one (v 1))

  pub sum_at-one : (t : ℕ → F) (c : ℕ) → sum_at K (product_of K (t ∷ [])) c ≡ t c
  sum_at-one t c = combined-one (λ i. get_or (t ∷ []) i (nothing K) c)

  pub sum_at-two : (s t : ℕ → F) (c : ℕ) → sum_at K (product_of K (s ∷ t ∷ [])) c ≡ K.times (s c) (t c)
  sum_at-two s t c = combined-two (λ i. get_or (s ∷ t ∷ []) i (nothing K) c)

  -- where the first variable is two
  at_two : (t : ℕ → F) (c : ℕ) → fixed K t (natural K 2 ∷ []) c ≡ K.plus (t (2 * c + 1)) (minus K (t (2 * c + 1)) (t (2 * c)))
  at_two t c =
      ap (λ f. f c) (fixed-one K N t (natural K 2))
      ∙ ring2 K N (λ u v. (u ⊕ ((nought ⊕ unit) ⊕ unit) ⊗ (v ⊖ u), v ⊕ (v ⊖ u))) refl (t (2 * c)) (t (2 * c + 1))

  pub bound-two : (s t : ℕ → F) (c : ℕ) → sum_at K (bound_to K (natural K 2) (product_of K (s ∷ t ∷ []))) c
      ≡ K.times (K.plus (s (2 * c + 1)) (minus K (s (2 * c + 1)) (s (2 * c)))) (K.plus (t (2 * c + 1)) (minus K (t (2 * c + 1)) (t (2 * c))))
  bound-two s t c = combined-two (λ i. fixed K (get_or (s ∷ t ∷ []) i (nothing K)) (natural K 2 ∷ []) c) ∙ ap₂ K.times (at_two s c) (at_two t c)

  -- one product more
  pub sum_next : (n : ℕ) (f : ℕ → F) (s p t : F) → s ≡ sum_below (itself K) n f → p ≡ f n → t ≡ K.plus s p → t ≡ sum_below (itself K) (n + 1) f
  sum_next n f s p t e h is = let more : suc n ≡ n + 1 = omega arith in is ∙ ap₂ K.plus e h ∙ ap (λ k. sum_below (itself K) k f) more

  -- the weights of the corners, as one of two factors
  pub sum_of_weights : (r : List F) (e t : ℕ → F) → ((b : ℕ) → b < 2 ^ length r → e b ≡ weight K r b) → cube_sum K (length r) (product_of K (e ∷ t ∷ [])) ≡ extension K t r
  sum_of_weights r e t h =
      sum_below-same (itself K) (2 ^ length r) (sum_at K (product_of K (e ∷ t ∷ []))) (λ b. K.times (t b) (weight K r b))
      (λ b l. sum_at-two e t b ∙ N.times_comm (e b) (t b) ∙ ap (K.times (t b)) (h b l))
