-- The values of polynomials by those of their parts: halves, quarters, and coefficients so many apart.
use Rattle.std.proofs.Common.{◌≡◌, ℕ, zero, suc, ◌+◌, ◌*◌, ◌<◌, ap, ap₂, sym, ◌∙◌, refl, arith}
use Rattle.ark_math.specs.Field.{FieldOn, IsField, power}
use Rattle.ark_math.specs.Module.{itself}
use Rattle.ark_math.specs.Univariate.{added, nothing, scaled, value_below}
use Rattle.ark_bit_reversed.specs.Blocks.{AreTurned}
use Rattle.ark_math.proofs.Algebra.Groups.{itself_is_module}
use Rattle.ark_math.proofs.Algebra.Powers.{power-add, power-mul, times_zero}
use Rattle.ark_math.proofs.Algebra.Sums.{sum_below-add, sum_below-same, sum_below-scale}
use Rattle.ark_math.proofs.Algebra.Solve.{◌⊗◌, ◌⊕◌, ◌⊖◌, negative, nought, unit}
use Rattle.ark_math.proofs.Algebra.Ring.{ring1, ring6}
use Rattle.ark_math_polynomials.proofs.Polynomials.UnivariateValues.{value_below-added, value_below-scaled}

module _ {F : Type 0} (K : FieldOn F) (N : IsField K) where
  -- of coefficients that are the same
  pub value_of_same : (n : ℕ) (a b : ℕ → F) (z : F) → ((i : ℕ) → i < n → a i ≡ b i) → value_below K n a z ≡ value_below K n b z
  value_of_same n a b z same = sum_below-same (itself K) n _ _ (λ i l. ap (K.times (power K z i)) (same i l))

  -- of one coefficient
  pub value_of_one : (m : ℕ) (a : ℕ → F) (z : F) (r : ℕ) → m ≡ 1 → r < m → a r ≡ value_below K m a z
  value_of_one m a z r one l =
      let first : r ≡ 0 = omega (arith, one, l) in
      ap a first ∙ ring1 K N (λ y. (y, nought ⊕ (unit ⊗ y))) refl (a 0) ∙ ap (λ t. value_below K t a z) (sym one)

  -- the first coefficients, and those from m on
  pub value_split : (m n : ℕ) (a : ℕ → F) (z : F) → value_below K (m + n) a z ≡ K.plus (value_below K m a z) (K.times (power K z m) (value_below K n (λ j. a (m + j)) z))
  value_split m n a z =
      sum_below-add (itself_is_module K N) m n (λ i. K.times (power K z i) (a i))
      ∙ ap (K.plus (value_below K m a z))
      (sum_below-same (itself K) n (λ j. K.times (power K z (m + j)) (a (m + j))) (λ j. K.times (power K z m) (K.times (power K z j) (a (m + j))))
      (λ j l. ap (λ p. K.times p (a (m + j))) (power-add K N z m j) ∙ N.times_assoc (power K z m) (power K z j) (a (m + j)))
      ∙ sum_below-scale (itself_is_module K N) n (power K z m) (λ j. K.times (power K z j) (a (m + j))))

  -- two halves, where the power of half their number is known
  pub value_by_halves : (m : ℕ) (a : ℕ → F) (z w : F) → power K z m ≡ w → value_below K (m + m) a z ≡ K.plus (value_below K m a z) (K.times w (value_below K m (λ j. a (m + j)) z))
  value_by_halves m a z w is = value_split m m a z ∙ ap (λ p. K.plus (value_below K m a z) (K.times p (value_below K m (λ j. a (m + j)) z))) is

  -- four quarters
  value_by_quarters : (m : ℕ) (a : ℕ → F) (z w s : F) → power K z m ≡ w → K.times w w ≡ s → value_below K (4 * m) a z ≡ K.plus (K.plus (value_below K m a z) (K.times s (value_below K m (λ j. a (2 * m + j)) z))) (K.times w (K.plus (value_below K m (λ j. a (m + j)) z) (K.times s (value_below K m (λ j. a (3 * m + j)) z))))
  value_by_quarters m a z w s is square =
      let four : 4 * m ≡ (m + m) + (m + m) = omega arith in
      let third : (j : ℕ) → (m + m) + j ≡ 2 * m + j = λ j. omega arith in
      let fourth : (j : ℕ) → (m + m) + (m + j) ≡ 3 * m + j = λ j. omega arith in
      ap (λ t. value_below K t a z) four
      ∙ value_by_halves (m + m) a z s (power-add K N z m m ∙ ap₂ K.times is is ∙ square)
      ∙ ap₂ (λ p q. K.plus p (K.times s q)) (value_by_halves m a z w is)
      (value_by_halves m (λ j. a ((m + m) + j)) z w is
      ∙ ap₂ (λ p q. K.plus p (K.times w q))
      (value_of_same m _ _ z (λ j l. ap a (third j)))
      (value_of_same m _ _ z (λ j l. ap a (fourth j))))
      ∙ ring6 K N (λ a b c d w s. ((a ⊕ (w ⊗ b)) ⊕ (s ⊗ (c ⊕ (w ⊗ d))), (a ⊕ (s ⊗ c)) ⊕ (w ⊗ (b ⊕ (s ⊗ d))))) refl _ _ _ _ w s

  -- coefficients that are s apart
  pub value_by_strides : (s m : ℕ) (a : ℕ → F) (z : F) → value_below K (s * m) a z ≡ value_below K s (λ j. value_below K m (λ k. a (s * k + j)) (power K z s)) z
  value_by_strides s zero a z =
      let e : s * 0 ≡ 0 = omega arith in
      ap (λ t. value_below K t a z) e ∙ sym (value_of_nothing s z)
    where
      value_of_nothing : (n : ℕ) (z : F) → value_below K n (nothing K) z ≡ K.zero
      value_of_nothing zero z = refl
      value_of_nothing (suc n) z = ap₂ K.plus (value_of_nothing n z) (times_zero K N (power K z n)) ∙ N.plus_zero K.zero
  value_by_strides s (suc m) a z =
      let e : s * suc m ≡ s * m + s = omega arith in
      let y = power K z s in
      ap (λ t. value_below K t a z) e
      ∙ value_split (s * m) s a z
      ∙ ap₂ K.plus (value_by_strides s m a z) (ap (λ p. K.times p (value_below K s (λ j. a (s * m + j)) z)) (power-mul K N z s m) ∙ sym (value_below-scaled K N s (power K y m) (λ j. a (s * m + j)) z))
      ∙ sym (value_below-added K N s (λ j. value_below K m (λ k. a (s * k + j)) y) (scaled K (power K y m) (λ j. a (s * m + j))) z)

  -- of what two levels of butterflies make of four quarters, all with one square root w of s
  value_of_turned : (m : ℕ) (a b c d : ℕ → F) (z w s : F) → value_below K m (added K (added K a (scaled K s c)) (scaled K w (added K b (scaled K s d)))) z ≡ K.plus (K.plus (value_below K m a z) (K.times s (value_below K m c z))) (K.times w (K.plus (value_below K m b z) (K.times s (value_below K m d z))))
  value_of_turned m a b c d z w s =
      value_below-added K N m (added K a (scaled K s c)) (scaled K w (added K b (scaled K s d))) z
      ∙ ap₂ K.plus (pair_value a c)
      (value_below-scaled K N m w (added K b (scaled K s d)) z ∙ ap (K.times w) (pair_value b d))
    where
      pair_value : (f g : ℕ → F) → value_below K m (added K f (scaled K s g)) z ≡ K.plus (value_below K m f z) (K.times s (value_below K m g z))
      pair_value f g = value_below-added K N m f (scaled K s g) z ∙ ap (K.plus (value_below K m f z)) (value_below-scaled K N m s g z)

  -- the values of what two levels of butterflies make of four quarters are the whole polynomial's
  module _ (m : ℕ) (a e f g h : ℕ → F) (t u v z : F) (turned : (i : ℕ) → i < m → AreTurned K t u v (a i) (a (m + i)) (a (2 * m + i)) (a (3 * m + i)) (e i) (f i) (g i) (h i)) where
    -- one of the four, by what it takes the parts with
    whole : (w s : F) (made : ℕ → F) → ((i : ℕ) → i < m → made i ≡ K.plus (K.plus (a i) (K.times s (a (2 * m + i)))) (K.times w (K.plus (a (m + i)) (K.times s (a (3 * m + i)))))) → power K z m ≡ w → K.times w w ≡ s → value_below K m made z ≡ value_below K (4 * m) a z
    whole w s made same is square =
        value_of_same m made (added K (added K a (scaled K s (λ i. a (2 * m + i)))) (scaled K w (added K (λ i. a (m + i)) (scaled K s (λ i. a (3 * m + i)))))) z same
        ∙ value_of_turned m a (λ i. a (m + i)) (λ i. a (2 * m + i)) (λ i. a (3 * m + i)) z w s
        ∙ sym (value_by_quarters m a z w s is square)

    -- each of the four, at the elements with its power
    pub first_turned : power K z m ≡ u → K.times u u ≡ t → value_below K m e z ≡ value_below K (4 * m) a z
    first_turned is square = whole u t e (λ i l. (turned i l).first) is square

    pub second_turned : power K z m ≡ K.negated u → K.times u u ≡ t → value_below K m f z ≡ value_below K (4 * m) a z
    second_turned is square =
        whole (K.negated u) t f (λ i l. (turned i l).second ∙ ring6 K N (λ a b c d w s. ((a ⊕ (s ⊗ c)) ⊖ (w ⊗ (b ⊕ (s ⊗ d))), (a ⊕ (s ⊗ c)) ⊕ (negative w ⊗ (b ⊕ (s ⊗ d))))) refl _ _ _ _ u t)
        is (ring1 K N (λ u. (negative u ⊗ negative u, u ⊗ u)) refl u ∙ square)

    pub third_turned : power K z m ≡ v → K.times v v ≡ K.negated t → value_below K m g z ≡ value_below K (4 * m) a z
    third_turned is square =
        whole v (K.negated t) g (λ i l. (turned i l).third ∙ ring6 K N (λ a b c d w s. ((a ⊖ (s ⊗ c)) ⊕ (w ⊗ (b ⊖ (s ⊗ d))), (a ⊕ (negative s ⊗ c)) ⊕ (w ⊗ (b ⊕ (negative s ⊗ d))))) refl _ _ _ _ v t)
        is square

    pub fourth_turned : power K z m ≡ K.negated v → K.times v v ≡ K.negated t → value_below K m h z ≡ value_below K (4 * m) a z
    fourth_turned is square =
        whole (K.negated v) (K.negated t) h (λ i l. (turned i l).fourth ∙ ring6 K N (λ a b c d w s. ((a ⊖ (s ⊗ c)) ⊖ (w ⊗ (b ⊖ (s ⊗ d))), (a ⊕ (negative s ⊗ c)) ⊕ (negative w ⊗ (b ⊕ (negative s ⊗ d))))) refl _ _ _ _ v t)
        is (ring1 K N (λ v. (negative v ⊗ negative v, v ⊗ v)) refl v ∙ square)
