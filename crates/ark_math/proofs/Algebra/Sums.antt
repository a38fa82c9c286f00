-- Sums of the values of a module.
use Rattle.std.proofs.Common.{◌≡◌, ℕ, zero, suc, ◌+◌, ◌<◌, sym, ◌∙◌, ap, refl, arith}
use Rattle.ark_math.specs.Field.{FieldOn, power}
use Rattle.ark_math.specs.Module.{ModuleOn, IsModule, sum_below}
use Rattle.ark_math.proofs.Algebra.Groups.{plus_swap, scale_zero, zero_plus}

pub sum_below-same : {F M : Type 0} (V : ModuleOn F M) (n : ℕ) (f g : ℕ → M) → ((i : ℕ) → i < n → f i ≡ g i) → sum_below V n f ≡ sum_below V n g
sum_below-same V zero f g h = refl
sum_below-same V (suc n) f g h =
    ap (λ t. V.plus t (f n)) (sum_below-same V n f g (λ i l. h i (omega arith)))
    ∙ ap (V.plus (sum_below V n g)) (h n (omega arith))

module _ {F M : Type 0} {K : FieldOn F} {V : ModuleOn F M} (L : IsModule K V) where
  pub sum_below-plus : (n : ℕ) (f g : ℕ → M) → sum_below V n (λ i. V.plus (f i) (g i)) ≡ V.plus (sum_below V n f) (sum_below V n g)
  sum_below-plus zero f g = sym (L.plus_zero V.zero)
  sum_below-plus (suc n) f g =
      ap (λ t. V.plus t (V.plus (f n) (g n))) (sum_below-plus n f g)
      ∙ plus_swap L (sum_below V n f) (sum_below V n g) (f n) (g n)

  pub sum_below-scale : (n : ℕ) (a : F) (f : ℕ → M) → sum_below V n (λ i. V.scale a (f i)) ≡ V.scale a (sum_below V n f)
  sum_below-scale zero a f = sym (scale_zero L a)
  sum_below-scale (suc n) a f =
      ap (λ t. V.plus t (V.scale a (f n))) (sum_below-scale n a f)
      ∙ sym (L.scale_plus a (sum_below V n f) (f n))

  -- the first m, and the n after them
  pub sum_below-add : (m n : ℕ) (f : ℕ → M) → sum_below V (m + n) f ≡ V.plus (sum_below V m f) (sum_below V n (λ j. f (m + j)))
  sum_below-add m zero f =
      let e : m + 0 ≡ m = omega arith in
      ap (λ t. sum_below V t f) e ∙ sym (L.plus_zero (sum_below V m f))
  sum_below-add m (suc n) f =
      let e : m + suc n ≡ suc (m + n) = omega arith in
      ap (λ t. sum_below V t f) e
      ∙ (ap (λ t. V.plus t (f (m + n))) (sum_below-add m n f)
      ∙ L.plus_assoc (sum_below V m f) (sum_below V n (λ j. f (m + j))) (f (m + n)))

  plus_last : (a b c : M) → V.plus (V.plus a b) c ≡ V.plus (V.plus a c) b
  plus_last a b c = L.plus_assoc a b c ∙ (ap (V.plus a) (L.plus_comm b c) ∙ sym (L.plus_assoc a c b))

  -- Horner's rule: a sum by powers is its first term, and the factor times the sum of the rest
  pub sum_below-powers : (n : ℕ) (t : F) (f : ℕ → M) → sum_below V (suc n) (λ r. V.scale (power K t r) (f r)) ≡ V.plus (V.scale t (sum_below V n (λ r. V.scale (power K t r) (f (suc r))))) (f 0)
  sum_below-powers zero t f =
      zero_plus L (V.scale K.one (f 0))
      ∙ (L.one_scale (f 0)
      ∙ (sym (zero_plus L (f 0)) ∙ ap (λ x. V.plus x (f 0)) (sym (scale_zero L t))))
  sum_below-powers (suc n) t f =
      let rest = sum_below V n (λ r. V.scale (power K t r) (f (suc r))) in
      let last = V.scale (power K t n) (f (suc n)) in
      ap (λ x. V.plus x (V.scale (power K t (suc n)) (f (suc n)))) (sum_below-powers n t f)
      ∙ (ap (V.plus (V.plus (V.scale t rest) (f 0))) (L.times_scale t (power K t n) (f (suc n)))
      ∙ (plus_last (V.scale t rest) (f 0) (V.scale t last)
      ∙ ap (λ x. V.plus x (f 0)) (sym (L.scale_plus t rest last))))
