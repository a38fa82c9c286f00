-- Sums regrouped: of zeros, of one item, past the last item, reversed, exchanged, over a triangle.
use Rattle.std.proofs.Common.{◌≡◌, ◌≢◌, ℕ, zero, suc, ◌+◌, ◌-◌, ◌*◌, ◌<◌, ◌≤◌, sym, ◌∙◌, ap, ap₂, refl, arith, ⊎_elim}
use Rattle.std.proofs.lemmas.Bool.{cases_eq}
use Rattle.ark_math.specs.Field.{FieldOn, IsField}
use Rattle.ark_math.specs.Module.{ModuleOn, IsModule, itself, sum_below}
use Rattle.ark_math.proofs.Algebra.Groups.{zero_plus, zero_scale}
use Rattle.ark_math.proofs.Algebra.Solve.{◌⊞◌, ◌⊟◌, opposite, origin}
use Rattle.ark_math.proofs.Algebra.Ring.{module0_1, module0_2}
use Rattle.ark_math.proofs.Algebra.Sums.{sum_below-same, sum_below-plus, sum_below-add}

module _ {F M : Type 0} {K : FieldOn F} {V : ModuleOn F M} (L : IsModule K V) where
  pub sum_below-zero : (n : ℕ) (f : ℕ → M) → ((i : ℕ) → i < n → f i ≡ V.zero) → sum_below V n f ≡ V.zero
  sum_below-zero zero f h = refl
  sum_below-zero (suc n) f h =
      ap₂ V.plus (sum_below-zero n f (λ i l. h i (omega arith))) (h n (omega arith)) ∙ L.plus_zero V.zero

  pub sum_below-none : (n : ℕ) → sum_below V n (λ i. V.zero) ≡ V.zero
  sum_below-none n = sum_below-zero n (λ i. V.zero) (λ i l. refl)

  -- nothing but zeros after the first m
  pub sum_below-past : (m n : ℕ) (f : ℕ → M) → m ≤ n → ((i : ℕ) → m ≤ i → i < n → f i ≡ V.zero) → sum_below V n f ≡ sum_below V m f
  sum_below-past m zero f l h = let e : 0 ≡ m = omega arith in ap (λ t. sum_below V t f) e
  sum_below-past m (suc n) f l h =
      ⊎_elim
      (λ (e : m ≡ suc n). ap (λ t. sum_below V t f) (sym e))
      (λ (ne : m ≢ suc n).
      ap₂ V.plus (sum_below-past m n f (omega arith) (λ i b c. h i b (omega arith))) (h n (omega arith) (omega arith)) ∙ L.plus_zero (sum_below V m f))
      (cases_eq m (suc n))

  -- the first one, and the rest
  pub sum_below-first : (n : ℕ) (f : ℕ → M) → sum_below V (suc n) f ≡ V.plus (f 0) (sum_below V n (λ i. f (suc i)))
  sum_below-first zero f = L.plus_comm V.zero (f 0)
  sum_below-first (suc n) f =
      ap (λ t. V.plus t (f (suc n))) (sum_below-first n f) ∙ L.plus_assoc (f 0) (sum_below V n (λ i. f (suc i))) (f (suc n))

  -- all zero but the one at k
  pub sum_below-single : (n k : ℕ) (f : ℕ → M) → k < n → ((i : ℕ) → i < n → i ≢ k → f i ≡ V.zero) → sum_below V n f ≡ f k
  sum_below-single n k f l h =
      sum_below-past (suc k) n f l (λ i b c. h i c (omega arith))
      ∙ ap (λ t. V.plus t (f k)) (sum_below-zero k f (λ i b. h i (omega arith) (omega arith)))
      ∙ zero_plus L (f k)

  -- in the other order
  pub sum_below-reversed : (n : ℕ) (f g : ℕ → M) → ((i j : ℕ) → i + j + 1 ≡ n → f i ≡ g j) → sum_below V n f ≡ sum_below V n g
  sum_below-reversed zero f g h = refl
  sum_below-reversed (suc n) f g h =
      ap₂ V.plus (sum_below-reversed n f (λ j. g (suc j)) (λ i j e. h i (suc j) (omega arith))) (h n 0 (omega arith))
      ∙ L.plus_comm (sum_below V n (λ j. g (suc j))) (g 0)
      ∙ sym (sum_below-first n g)

  pub sum_below-swap : (m n : ℕ) (f : ℕ → ℕ → M) → sum_below V m (λ i. sum_below V n (f i)) ≡ sum_below V n (λ j. sum_below V m (λ i. f i j))
  sum_below-swap zero n f = sym (sum_below-none n)
  sum_below-swap (suc m) n f =
      ap (λ t. V.plus t (sum_below V n (f m))) (sum_below-swap m n f)
      ∙ sym (sum_below-plus L n (λ j. sum_below V m (λ i. f i j)) (f m))

  -- over the pairs of i + j below n
  pub sum_below-triangle : (n : ℕ) (f : ℕ → ℕ → M) → sum_below V n (λ k. sum_below V (suc k) (λ i. f i (k - i))) ≡ sum_below V n (λ i. sum_below V (n - i) (f i))
  sum_below-triangle zero f = refl
  sum_below-triangle (suc n) f =
      let a = sum_below V n (λ i. sum_below V (n - i) (f i)) in
      let b = sum_below V n (λ i. f i (n - i)) in
      let row : (i : ℕ) → i < suc n → sum_below V (suc n - i) (f i) ≡ V.plus (sum_below V (n - i) (f i)) (f i (n - i)) =
      λ i l. let e : suc n - i ≡ suc (n - i) = omega arith in ap (λ t. sum_below V t (f i)) e in
      let none : n - n ≡ 0 = omega arith in
      ap (λ t. V.plus t (V.plus b (f n (n - n)))) (sum_below-triangle n f)
      ∙ sym (L.plus_assoc a b (f n (n - n)))
      ∙ sym (ap₂ V.plus
      (sum_below-same V n (λ i. sum_below V (suc n - i) (f i)) (λ i. V.plus (sum_below V (n - i) (f i)) (f i (n - i))) (λ i l. row i (omega arith))
      ∙ sum_below-plus L n (λ i. sum_below V (n - i) (f i)) (λ i. f i (n - i)))
      (row n (omega arith) ∙ ap (λ t. V.plus (sum_below V t (f n)) (f n (n - n))) none ∙ zero_plus L (f n (n - n))))

  -- all zero but those at the multiples of s
  pub sum_below-multiples : (s m : ℕ) (f : ℕ → M) → 0 < s → ((k r : ℕ) → k < m → 0 < r → r < s → f (s * k + r) ≡ V.zero) → sum_below V (s * m) f ≡ sum_below V m (λ k. f (s * k))
  sum_below-multiples s zero f pos h = let e : s * 0 ≡ 0 = omega arith in ap (λ t. sum_below V t f) e
  sum_below-multiples s (suc m) f pos h =
      let e : s * suc m ≡ s * m + s = omega arith in
      let z : s * m + 0 ≡ s * m = omega arith in
      ap (λ t. sum_below V t f) e
      ∙ sum_below-add L (s * m) s f
      ∙ ap₂ V.plus
      (sum_below-multiples s m f pos (λ k r l. h k r (omega arith)))
      (sum_below-single s 0 (λ r. f (s * m + r)) pos (λ r l ne. h m r (omega arith) (omega arith) l) ∙ ap f z)

module _ {F M : Type 0} {K : FieldOn F} {V : ModuleOn F M} (N : IsField K) (L : IsModule K V) where
  pub sum_below-negated : (n : ℕ) (f : ℕ → M) → sum_below V n (λ i. V.negated (f i)) ≡ V.negated (sum_below V n f)
  sum_below-negated zero f = sym (module0_1 N L (λ x. (opposite origin, origin)) refl V.zero)
  sum_below-negated (suc n) f =
      ap (λ t. V.plus t (V.negated (f n))) (sum_below-negated n f)
      ∙ module0_2 N L (λ x y. (opposite x ⊟ y, opposite (x ⊞ y))) refl _ _

  pub sum_of_scalars : (n : ℕ) (a : ℕ → F) (x : M) → sum_below V n (λ i. V.scale (a i) x) ≡ V.scale (sum_below (itself K) n a) x
  sum_of_scalars zero a x = sym (zero_scale N L x)
  sum_of_scalars (suc n) a x =
      ap (λ t. V.plus t (V.scale (a n) x)) (sum_of_scalars n a x) ∙ sym (L.plus_scale (sum_below (itself K) n a) (a n) x)
