-- What the values over blocks are by: coefficients from values, values at further blocks, and those of the second of a
-- polynomial's three parts.
use Rattle.std.proofs.Common.{◌≡◌, ℕ, suc, ◌+◌, ◌*◌, ◌<◌, ◌≤◌, List, length, refl, sym, ◌∙◌, ap, ap₂, subst, arith, inl, inr}
use mathlib.Core.Path.{fun_ext}
use Rattle.std.proofs.lemmas.Bool.{cases_lt}
use Rattle.ark_math.specs.Field.{FieldOn, IsField, power, minus}
use Rattle.ark_math.specs.Univariate.{added, difference, scaled, product, IsBelow, value_below, of_list}
use Rattle.ark_math.proofs.Algebra.Powers.{powers_inverse}
use Rattle.ark_math.proofs.Algebra.Solve.{◌⊗◌, ◌⊕◌, ◌⊖◌, negative, unit}
use Rattle.ark_math.proofs.Algebra.Ring.{ring3}
use Rattle.ark_math_polynomials.proofs.Polynomials.UnivariateLists.{of_list-past}
use Rattle.ark_math_polynomials.proofs.Polynomials.UnivariateValues.{value_is, value_below-added, value_below-difference, value_below-scaled}
use Rattle.ark_math_polynomials.proofs.Polynomials.UnivariateProducts.{value-product}
use Rattle.ark_bit_reversed.specs.Blocks.{AreReversed, AreValuesFrom, IsPowerOfTwo}
use Rattle.ark_bit_reversed.proofs.Callers.Runs.{power_at_block, power_at_first, power_at_next, first_item, first_values}
use Rattle.ark_bit_reversed.proofs.Callers.Splits.{value_by_halves, value_of_same, value_split}

module _ {F : Type 0} (K : FieldOn F) (N : IsField K) where
  -- what a butterfly back multiplies by
  abbrev two : F
  two = K.plus K.one K.one

  -- ---- coefficients from values

  -- as many halvings undo that many doublings
  pub halved : (half : F) → K.times two half ≡ K.one → (levels : ℕ) (v : F) → K.times (K.times (power K two levels) v) (power K half levels) ≡ v
  halved half is levels v =
      ring3 K N (λ p v h. ((p ⊗ v) ⊗ h, v ⊗ (p ⊗ h))) refl (power K two levels) v (power K half levels)
      ∙ ap (K.times v) (powers_inverse K N two half levels is)
      ∙ N.times_one v

  -- a list of a polynomial's coefficients below a bound is the polynomial
  pub same_polynomial : (n : ℕ) (a : ℕ → F) (u : List F) → IsBelow K n a → length u ≡ n → ((i : ℕ) → i < n → of_list K u i ≡ a i) → of_list K u ≡ a
  same_polynomial n a u below len each = fun_ext (λ i. elim (cases_lt i n) [
    | inl l ↦ each i l
    | inr past ↦ of_list-past K u i (omega (arith, past, len)) ∙ sym (below i past)
  ])

  -- values at the first elements, as those of the first block
  pub at_first_block : (x : ℕ → F) (n m : ℕ) (a : ℕ → F) (v : List F) → n ≡ m → IsBelow K n a → AreValuesFrom K x 0 n a v → (i : ℕ) → i < m → of_list K v i ≡ value_below K m a (x (0 * m + i))
  at_first_block x n m a v e below V i l =
      let place : i ≡ 0 * m + i = omega arith in
      first_item K N x n n a v below V i (subst (λ t. i < t) (sym e) l)
      ∙ ap₂ (λ t j. value_below K t a (x j)) e place

  -- ---- values at further blocks

  -- at the elements of a block coefficients from its length on count as those before them, times the element that it is named by
  pub value_at_block : (size m b : ℕ) (x c d : ℕ → F) → AreReversed K size x → IsPowerOfTwo m → suc b * m ≤ size → ((i : ℕ) → i < m → d i ≡ K.plus (c i) (K.times (x b) (c (m + i)))) → (i : ℕ) → i < m → value_below K m d (x (b * m + i)) ≡ value_below K (m + m) c (x (b * m + i))
  value_at_block size m b x c d rev p room each i l =
      let z = x (b * m + i) in
      let high : ℕ → F = λ j. c (m + j) in
      value_of_same K N m d (added K c (scaled K (x b) high)) z each
      ∙ value_below-added K N m c (scaled K (x b) high) z
      ∙ ap (K.plus (value_below K m c z)) (value_below-scaled K N m (x b) high z)
      ∙ sym (value_by_halves K N m c z (x b) (power_at_block K N size m b x rev p room i l))

  -- ---- the second of three parts

  module _ (s : ℕ) (p : ℕ → F) where
    -- what a polynomial below three times s is where the power s is minus one
    pub turned : ℕ → F
    turned j = K.plus (minus K (p j) (p (s + j))) (p (s + (s + j)))

    -- the values of the three parts
    low : F → F
    low z = value_below K s p z

    middle : F → F
    middle z = value_below K s (λ j. p (s + j)) z

    high : F → F
    high z = value_below K s (λ j. p (s + (s + j))) z

    -- the whole's value by theirs, where the power s is known
    three_parts : (z w : F) → power K z s ≡ w → value_below K (s + (s + s)) p z ≡ K.plus (low z) (K.times w (K.plus (middle z) (K.times w (high z))))
    unfolding low middle high
    three_parts z w e =
        value_split K N s (s + s) p z
        ∙ ap₂ (λ r t. K.plus (value_below K s p z) (K.times r t)) e (value_by_halves K N s (λ j. p (s + j)) z w e)

    -- the value of what it is where that is minus one
    turned-value : (z : F) → value_below K s turned z ≡ K.plus (minus K (low z) (middle z)) (high z)
    unfolding turned low middle high
    turned-value z =
        value_below-added K N s (difference K p (λ j. p (s + j))) (λ j. p (s + (s + j))) z
        ∙ ap (λ t. K.plus t (value_below K s (λ j. p (s + (s + j))) z)) (value_below-difference K N s p (λ j. p (s + j)) z)

    -- the whole's value there
    value_where_turned : (z : F) → power K z s ≡ K.negated K.one → value_below K (s + (s + s)) p z ≡ value_below K s turned z
    value_where_turned z e =
        three_parts z (K.negated K.one) e
        ∙ ring3 K N (λ a b c. (a ⊕ (negative unit ⊗ (b ⊕ (negative unit ⊗ c))), (a ⊖ b) ⊕ c)) refl (low z) (middle z) (high z)
        ∙ sym (turned-value z)

    -- where the power is one, what is left of the whole without that is twice the second part
    second_part : (z : F) → power K z s ≡ K.one → minus K (value_below K (s + (s + s)) p z) (value_below K s turned z) ≡ K.plus (value_below K s (λ j. p (s + j)) z) (value_below K s (λ j. p (s + j)) z)
    unfolding middle
    second_part z e =
        ap₂ (minus K) (three_parts z K.one e) (turned-value z)
        ∙ ring3 K N (λ a b c. ((a ⊕ (unit ⊗ (b ⊕ (unit ⊗ c)))) ⊖ ((a ⊖ b) ⊕ c), b ⊕ b)) refl (low z) (middle z) (high z)

  -- the values of products, place by place
  module _ (size s : ℕ) (x : ℕ → F) (rev : AreReversed K size x) (two_to : IsPowerOfTwo s) (room : s + s ≤ size) (a b : ℕ → F) (u v : List F) (A : AreValuesFrom K x 0 (s + s) a u) (B : AreValuesFrom K x 0 (s + s) b v) (below : IsBelow K (s + (s + s)) (product K a b)) where
    -- the product of two items is a value of the product
    product_item : (i : ℕ) → i < s + s → K.times (of_list K u i) (of_list K v i) ≡ value_below K (s + (s + s)) (product K a b) (x i)
    product_item i l =
        let start : 0 + i ≡ i = omega arith in
        value_is K N (s + (s + s)) (product K a b) (x (0 + i)) _ below (value-product K N a b (x (0 + i)) _ _ (A.values i l) (B.values i l))
        ∙ ap (λ j. value_below K (s + (s + s)) (product K a b) (x j)) start

    -- at the second block's elements they are those of what the product is there
    pub turned_values : (i : ℕ) → i < s → K.times (of_list K u (s + i)) (of_list K v (s + i)) ≡ value_below K s (turned s (product K a b)) (x (s + i))
    turned_values i l =
        product_item (s + i) (omega (arith, l))
        ∙ value_where_turned s (product K a b) (x (s + i)) (power_at_next K N size s x rev two_to room i l)

    -- and at the first's, without the values of that there, those of twice the second part
    pub upper_values : (d : ℕ → F) (w : List F) (y : ℕ → F) → IsBelow K s d → ((i : ℕ) → i < s → d i ≡ K.plus (product K a b (s + i)) (product K a b (s + i))) → ((i : ℕ) → i < s → y i ≡ value_below K s (turned s (product K a b)) (x i)) → length w ≡ s → ((i : ℕ) → i < s → of_list K w i ≡ minus K (K.times (of_list K u i) (of_list K v i)) (y i)) → AreValuesFrom K x 0 s d w
    upper_values d w y few upper others len each =
        let p = product K a b in
        let part : ℕ → F = λ j. p (s + j) in
        first_values K N x s s d w few len (λ i l.
        each i l
        ∙ ap₂ (minus K) (product_item i (omega (arith, l))) (others i l)
        ∙ second_part s p (x i) (power_at_first K N size s x rev two_to (omega (arith, room)) i l)
        ∙ sym (value_below-added K N s part part (x i))
        ∙ value_of_same K N s (added K part part) d (x i) (λ j b. sym (upper j b)))
