-- The polynomials whose values a block's halves and rows of four have, and what the levels back make of their coefficients.
use Rattle.std.proofs.Common.{◌≡◌, ℕ, zero, suc, ◌+◌, ◌*◌, ◌-◌, ◌^◌, ◌<◌, ◌≤◌, List, length, sym, ◌∙◌, ap, arith, subst}
use Rattle.std.proofs.lemmas.Nat.{mul-le}
use Rattle.ark_math.specs.Field.{FieldOn, IsField, minus, power}
use Rattle.ark_math.specs.Univariate.{of_list, scaled, value_below}
use Rattle.ark_math.proofs.Algebra.Groups.{itself_is_module, zero_plus}
use Rattle.ark_math.proofs.Algebra.Powers.{power-add}
use Rattle.ark_math_polynomials.proofs.Polynomials.UnivariateValues.{value_below-scaled}
use Rattle.ark_bit_reversed.specs.Blocks.{AreReversed, AreInverseRoots}
use Rattle.ark_bit_reversed.proofs.Elements.{power_of_block}
use Rattle.ark_bit_reversed.proofs.Callers.Splits.{value_by_strides, value_of_same}
use Rattle.ark_bit_reversed.proofs.Undone.{two, two_back}

module _ {F : Type 0} (K : FieldOn F) (x : ℕ → F) where
  -- the sums of coefficients that are m apart, by the powers of the element that a block is named by
  abbrev pub gathered : (s m b : ℕ) → (ℕ → F) → ℕ → F
  gathered s m b a i = value_below K s (λ p. a (m * p + i)) (x b)

module _ {F : Type 0} (K : FieldOn F) (N : IsField K) where
  -- two more levels double twice more
  pub two_more : (n : ℕ) → 2 ≤ n → K.times (power K (two K) 2) (power K (two K) (n - 2)) ≡ power K (two K) n
  two_more n l = let e : 2 + (n - 2) ≡ n = omega (arith, l) in sym (power-add K N (two K) 2 (n - 2)) ∙ ap (power K (two K)) e

  -- and one more level once
  pub one_more : (n : ℕ) → 1 ≤ n → K.times (two K) (power K (two K) (n - 1)) ≡ power K (two K) n
  one_more n l = let e : suc (n - 1) ≡ n = omega (arith, l) in ap (power K (two K)) e

module _ {F : Type 0} (K : FieldOn F) (N : IsField K) (size : ℕ) (x : ℕ → F) (R : AreReversed K size x) where
  -- values at a block's elements are those of the gathered coefficients, of which there are no more than the elements
  gathered_values : (l s b r : ℕ) (a : ℕ → F) → r < 2 ^ l → b * 2 ^ l + r < size → value_below K (2 ^ l * s) a (x (b * 2 ^ l + r)) ≡ value_below K (2 ^ l) (gathered K x s (2 ^ l) b a) (x (b * 2 ^ l + r))
  gathered_values l s b r a inside within =
      let z = x (b * 2 ^ l + r) in
      value_by_strides K N (2 ^ l) s a z
      ∙ value_of_same K N (2 ^ l) _ _ z (λ k h. ap (value_below K s (λ p. a (2 ^ l * p + k))) (power_of_block K N size x R l b r inside within))

  -- the values in a half of a block
  pub values_of_half : (l n b q d : ℕ) (a v w : ℕ → F) → n ≡ 2 ^ l * 2 → d ≡ 2 * b + q → q < 2 → suc b * n ≤ size → ((i : ℕ) → i < n → v i ≡ value_below K n a (x (b * n + i))) → ((i : ℕ) → i < 2 ^ l → w i ≡ v (q * 2 ^ l + i)) → (i : ℕ) → i < 2 ^ l → w i ≡ value_below K (2 ^ l) (gathered K x 2 (2 ^ l) d a) (x (d * 2 ^ l + i))
  values_of_half l n b q d a v w whole named few within known part i less =
      let h = 2 ^ l in
      let bound : suc q * h ≤ 2 * h = mul-le (suc q) h 2 h few (omega arith) in
      let there : q * h + i < n = omega (arith, whole, less, bound) in
      let element : b * n + (q * h + i) ≡ d * h + i = ap (λ t. b * t + (q * h + i)) whole ∙ omega arith ∙ ap (λ t. t * h + i) (sym named) in
      let inside : d * h + i < size = omega (arith, element, there, within) in
      part i less
      ∙ known (q * h + i) there
      ∙ ap (λ t. value_below K n a (x t)) element
      ∙ ap (λ t. value_below K t a (x (d * h + i))) whole
      ∙ gathered_values l 2 d i a less inside

  -- the values in a row of four are those of four coefficients, each a value of every fourth one
  pub values_of_row : (m n b r d : ℕ) (a v : ℕ → F) → n ≡ 4 * m → r < m → d ≡ b * m + r → suc b * n ≤ size → ((i : ℕ) → i < n → v i ≡ value_below K n a (x (b * n + i))) → (i : ℕ) → i < 4 → v (4 * r + i) ≡ value_below K 4 (λ j. value_below K m (λ k. a (4 * k + j)) (x d)) (x (4 * d + i))
  values_of_row m n b r d a v whole less named within known i few =
      let there : 4 * r + i < n = omega (arith, whole, less, few) in
      let element : b * n + (4 * r + i) ≡ 4 * d + i = ap (λ t. b * t + (4 * r + i)) whole ∙ omega (arith, named) in
      let place : 4 * d + i ≡ d * 4 + i = omega arith in
      let inside : d * 4 + i < size = omega (arith, place, element, there, within) in
      let z = x (4 * d + i) in
      known (4 * r + i) there
      ∙ ap (λ t. value_below K n a (x t)) element
      ∙ ap (λ t. value_below K t a z) whole
      ∙ value_by_strides K N 4 m a z
      ∙ ap (λ y. value_below K 4 (λ j. value_below K m (λ k. a (4 * k + j)) y) z) (ap (λ t. power K (x t) 4) place ∙ power_of_block K N size x R 2 d i few inside)

module _ {F : Type 0} (K : FieldOn F) (N : IsField K) (x : ℕ → F) (inverses : List F) (known : AreInverseRoots K x inverses) where
  -- a multiple of a value is a value of that multiple
  scaled_value : (s b : ℕ) (c : F) (f : ℕ → F) (p : F) → p ≡ K.times c (value_below K s f (x b)) → p ≡ value_below K s (scaled K c f) (x b)
  scaled_value s b c f p e = e ∙ sym (value_below-scaled K N s c f (x b))

  -- what a level back makes of two values at opposite elements, of which some multiple is known
  pub pair_back : (b : ℕ) (s : F) (f : ℕ → F) (p q : F) → 2 * b + 1 < length inverses + length inverses
      → p ≡ K.times s (value_below K 2 f (x (2 * b))) → q ≡ K.times s (value_below K 2 f (x (2 * b + 1)))
      → (K.plus p q ≡ K.times (K.times (two K) s) (f 0)) × (K.times (of_list K inverses b) (minus K p q) ≡ K.times (K.times (two K) s) (f 1))
  pair_back b s f p q within first second =
      let back = two_back K N x inverses known b within (scaled K s f) p q (scaled_value 2 (2 * b) s f p first) (scaled_value 2 (2 * b + 1) s f q second) in
      (back.0 ∙ sym (N.times_assoc (two K) s (f 0)), back.1 ∙ sym (N.times_assoc (two K) s (f 1)))

  -- the same of a block's halves
  pub halves_back : (b m k : ℕ) (s : F) (a : ℕ → F) (p q : F) → 2 * b + 1 < length inverses + length inverses
      → p ≡ K.times s (gathered K x 2 m (2 * b) a k) → q ≡ K.times s (gathered K x 2 m (2 * b + 1) a k)
      → (K.plus p q ≡ K.times (K.times (two K) s) (a k)) × (K.times (of_list K inverses b) (minus K p q) ≡ K.times (K.times (two K) s) (a (m + k)))
  halves_back b m k s a p q within first second =
      let i0 : m * 0 + k ≡ k = omega arith in
      let i1 : m * 1 + k ≡ m + k = omega arith in
      let back = pair_back b s (λ j. a (m * j + k)) p q within first second in
      (back.0 ∙ ap (λ t. K.times (K.times (two K) s) (a t)) i0, back.1 ∙ ap (λ t. K.times (K.times (two K) s) (a t)) i1)

  -- one level back of two values
  two_alone : (b : ℕ) (a v w : ℕ → F) → 2 * b + 1 < length inverses + length inverses → w 0 ≡ K.plus (v 0) (v 1) → w 1 ≡ K.times (of_list K inverses b) (minus K (v 0) (v 1)) → ((i : ℕ) → i < 2 → v i ≡ value_below K 2 a (x (b * 2 + i))) → (i : ℕ) → i < 2 → w i ≡ K.times (K.times (two K) K.one) (a i)
  two_alone b a v w within sum difference values = at
    where
      element : (i : ℕ) → b * 2 + i ≡ 2 * b + i
      element i = omega arith

      even : b * 2 + 0 ≡ 2 * b
      even = omega arith

      back : (K.plus (v 0) (v 1) ≡ K.times (two K) (a 0)) × (K.times (of_list K inverses b) (minus K (v 0) (v 1)) ≡ K.times (two K) (a 1))
      back = two_back K N x inverses known b within a (v 0) (v 1)
          (values 0 (omega arith) ∙ ap (λ t. value_below K 2 a (x t)) even)
          (values 1 (omega arith) ∙ ap (λ t. value_below K 2 a (x t)) (element 1))

      at : (i : ℕ) → i < 2 → w i ≡ K.times (K.times (two K) K.one) (a i)
      at zero l = sum ∙ back.0 ∙ ap (λ t. K.times t (a 0)) (sym (N.times_one (two K)))
      at (suc zero) l = difference ∙ back.1 ∙ ap (λ t. K.times t (a 1)) (sym (N.times_one (two K)))
      at (suc (suc i)) l = absurd (omega arith)

  -- the same where one level is left
  pub pair_at_last : (n b : ℕ) (a v w : ℕ → F) → 1 ≡ n → 2 * b + 1 < length inverses + length inverses → w 0 ≡ K.plus (v 0) (v 1) → w 1 ≡ K.times (of_list K inverses b) (minus K (v 0) (v 1)) → ((i : ℕ) → i < 2 ^ n → v i ≡ value_below K (2 ^ n) a (x (b * 2 ^ n + i))) → (i : ℕ) → i < 2 ^ n → w i ≡ K.times (power K (two K) n) (a i)
  pair_at_last n b a v w e within sum difference =
      subst (λ t. ((i : ℕ) → i < 2 ^ t → v i ≡ value_below K (2 ^ t) a (x (b * 2 ^ t + i))) → (i : ℕ) → i < 2 ^ t → w i ≡ K.times (power K (two K) t) (a i)) e (two_alone b a v w within sum difference)

  -- one value is its own coefficient
  one_alone : (b : ℕ) (a v : ℕ → F) → ((i : ℕ) → i < 1 → v i ≡ value_below K 1 a (x (b * 1 + i))) → (i : ℕ) → i < 1 → v i ≡ K.times K.one (a i)
  one_alone b a v values zero l = values 0 l ∙ zero_plus (itself_is_module K N) (K.times K.one (a 0))
  one_alone b a v values (suc i) l = absurd (omega arith)

  -- the same where there is no level
  pub one_at_last : (n b : ℕ) (a v : ℕ → F) → 0 ≡ n → ((i : ℕ) → i < 2 ^ n → v i ≡ value_below K (2 ^ n) a (x (b * 2 ^ n + i))) → (i : ℕ) → i < 2 ^ n → v i ≡ K.times (power K (two K) n) (a i)
  one_at_last n b a v e = subst (λ t. ((i : ℕ) → i < 2 ^ t → v i ≡ value_below K (2 ^ t) a (x (b * 2 ^ t + i))) → (i : ℕ) → i < 2 ^ t → v i ≡ K.times (power K (two K) t) (a i)) e (one_alone b a v)
