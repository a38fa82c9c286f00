-- Products f 0 * f 1 * .. * f (n - 1) of a field's values.
use Rattle.std.proofs.Common.{◌≡◌, ℕ, zero, suc, ◌<◌, ◌∙◌, ap, ap₂, refl, arith}
use Rattle.ark_math.specs.Field.{FieldOn, IsField, product_below}

pub product_below-same : {F : Type 0} (K : FieldOn F) (n : ℕ) (f g : ℕ → F) → ((i : ℕ) → i < n → f i ≡ g i) → product_below K n f ≡ product_below K n g
product_below-same K zero f g h = refl
product_below-same K (suc n) f g h = ap₂ K.times (product_below-same K n f g (λ i l. h i (omega arith))) (h n (omega arith))

module _ {F : Type 0} (K : FieldOn F) (N : IsField K) where
  pub product_below-first : (n : ℕ) (f : ℕ → F) → product_below K (suc n) f ≡ K.times (f 0) (product_below K n (λ i. f (suc i)))
  product_below-first zero f = N.times_comm K.one (f 0)
  product_below-first (suc n) f =
      ap (λ p. K.times p (f (suc n))) (product_below-first n f)
      ∙ N.times_assoc (f 0) (product_below K n (λ i. f (suc i))) (f (suc n))
