-- The powers of a block's elements, and that no two elements are one.
use Rattle.std.proofs.Common.{◌≡◌, ◌≢◌, ℕ, zero, suc, ◌+◌, ◌*◌, ◌-◌, ◌/◌, ◌^◌, ◌<◌, ◌≤◌, refl, sym, ap, ◌∙◌, arith, subst, ⊎_elim}
use Rattle.std.proofs.lemmas.Bool.{cases_eq, cases_lt}
use Rattle.std.proofs.lemmas.Nat.{pow-add, pow_pos}
use Rattle.ark_math.specs.Field.{FieldOn, IsField, power}
use Rattle.ark_math.proofs.Algebra.Powers.{power-mul, times_zero, zero_factor}
use Rattle.ark_math.proofs.Algebra.Ring.{ring1}
use Rattle.ark_math.proofs.Algebra.Solve.{◌⊗◌, ◌⊕◌, unit}
use Rattle.ark_math.proofs.Numbers.PowersOfTwo.{pow_twice}
use Rattle.ark_bit_reversed.specs.Blocks.{AreReversed}

-- half of a place in a block of twice as many
half_place : (b m i : ℕ) → (b * (2 * m) + i) / 2 ≡ b * m + i / 2
half_place b m i = omega arith

module _ {F : Type 0} (K : FieldOn F) (N : IsField K) (n : ℕ) (x : ℕ → F) (R : AreReversed K n x) where
  -- the elements of a block, to the power of how many they are, are the element that it is named by
  pub power_of_block : (l b i : ℕ) → i < 2 ^ l → b * 2 ^ l + i < n → power K (x (b * 2 ^ l + i)) (2 ^ l) ≡ x b
  power_of_block zero b i inside within =
      let e : b * 1 + i ≡ b = omega (arith, inside) in
      N.times_one (x (b * 1 + i)) ∙ ap x e
  power_of_block (suc l) b i inside within =
      let m = 2 ^ l in
      let z = x (b * 2 ^ suc l + i) in
      let place : (b * 2 ^ suc l + i) / 2 ≡ b * m + i / 2 = ap (λ t. (b * t + i) / 2) (pow_twice l) ∙ half_place b m i in
      let less : (b * 2 ^ suc l + i) / 2 < n = omega (arith, within) in
      let square : K.times z (K.times z K.one) ≡ x (b * m + i / 2) = ap (K.times z) (N.times_one z) ∙ R.squares (b * 2 ^ suc l + i) within ∙ ap x place in
      ap (power K z) (pow_twice l) ∙ power-mul K N z 2 m ∙ ap (λ y. power K y m) square
      ∙ power_of_block l b (i / 2) (omega (arith, inside, pow_twice l)) (subst (λ t. t < n) place less)

  -- two levels down: the roots of a block's first half
  pub root_of_low : (b : ℕ) → 4 * b < n → K.times (x (4 * b)) (x (4 * b)) ≡ x (2 * b)
  root_of_low b l = R.squares (4 * b) l ∙ ap x (omega arith)

  -- the second quarter is named by minus what names the first
  pub second_of_low : (b : ℕ) → 4 * b + 1 < n → x (4 * b + 1) ≡ K.negated (x (4 * b))
  second_of_low b l =
      let e : 4 * b + 1 ≡ suc (2 * b + 2 * b) = omega arith in
      let f : 2 * b + 2 * b ≡ 4 * b = omega arith in
      ap x e ∙ R.opposites (2 * b) (omega (arith, l)) ∙ ap (λ t. K.negated (x t)) f

  -- and of its second half
  pub root_of_high : (b : ℕ) → 4 * b + 2 < n → K.times (x (4 * b + 2)) (x (4 * b + 2)) ≡ K.negated (x (2 * b))
  root_of_high b l =
      let e : (4 * b + 2) / 2 ≡ suc (b + b) = omega arith in
      let f : b + b ≡ 2 * b = omega arith in
      R.squares (4 * b + 2) l ∙ ap x e ∙ R.opposites b (omega (arith, l)) ∙ ap (λ t. K.negated (x t)) f

  -- the fourth quarter is named by minus what names the third
  pub second_of_high : (b : ℕ) → 4 * b + 3 < n → x (4 * b + 3) ≡ K.negated (x (4 * b + 2))
  second_of_high b l =
      let e : 4 * b + 3 ≡ suc ((2 * b + 1) + (2 * b + 1)) = omega arith in
      let f : (2 * b + 1) + (2 * b + 1) ≡ 4 * b + 2 = omega arith in
      ap x e ∙ R.opposites (2 * b + 1) (omega (arith, l)) ∙ ap (λ t. K.negated (x t)) f

  element_some : (k i : ℕ) → i ≤ k → i < n → x i ≢ K.zero
  element_some zero i l inside e = (let first : 0 ≡ i = omega (arith, l) in N.one_not_zero (sym R.first ∙ ap x first ∙ e))
  element_some (suc k) i l inside e = ⊎_elim
      (λ (none : i ≡ 0). N.one_not_zero (sym R.first ∙ ap x (sym none) ∙ e))
      (λ (some : i ≢ 0). element_some k (i / 2) (omega (arith, l, some)) (omega (arith, inside)) (sym (R.squares i inside) ∙ ap (K.times (x i)) e ∙ times_zero K N (x i)))
      (cases_eq i 0)

  -- where two has an inverse only zero is its own opposite
  module _ (half : F) (one : K.times (K.plus K.one K.one) half ≡ K.one) where
    own_opposite : (y : F) → y ≡ K.negated y → y ≡ K.zero
    own_opposite y is =
        zero_factor K N (K.plus K.one K.one) y
        (λ e. N.one_not_zero (sym one ∙ ap (λ t. K.times t half) e ∙ N.times_comm K.zero half ∙ times_zero K N half))
        (ring1 K N (λ y. ((unit ⊕ unit) ⊗ y, y ⊕ y)) refl y ∙ ap (K.plus y) is ∙ N.plus_negated y)

    elements_apart : (k i j : ℕ) → j ≤ k → i < j → j < n → x i ≢ x j
    elements_apart zero i j l less inside e = absurd (omega (arith, l, less))
    elements_apart (suc k) i j l less inside e = ⊎_elim
        (λ (apart : i / 2 < j / 2).
        elements_apart k (i / 2) (j / 2) (omega (arith, l, less)) apart (omega (arith, inside))
        (sym (R.squares i (omega (arith, less, inside))) ∙ ap (λ t. K.times t t) e ∙ R.squares j inside))
        (λ (one_square : j / 2 ≤ i / 2).
        let b = i / 2 in
        let even : b + b ≡ i = omega (arith, one_square, less) in
        let odd : j ≡ suc (b + b) = omega (arith, one_square, less) in
        element_some i i (omega arith) (omega (arith, less, inside))
        (own_opposite (x i) (e ∙ ap x odd ∙ R.opposites b (omega (arith, odd, inside)) ∙ ap (λ t. K.negated (x t)) even)))
        (cases_lt (i / 2) (j / 2))

    -- so no two elements are one
    pub elements_different : (i j : ℕ) → i < j → j < n → x i ≢ x j
    elements_different i j less inside = elements_apart j i j (omega arith) less inside
