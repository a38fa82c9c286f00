-- The values of polynomials over runs of elements: sums and products item by item, one list for one polynomial, and polynomials
-- that have the same values at the first elements.
use Rattle.std.proofs.Common.{◌≡◌, ℕ, suc, ◌+◌, ◌*◌, ◌<◌, ◌≤◌, List, length, sym, ◌∙◌, ap, subst, arith}
use mathlib.Core.Path.{fun_ext}
use Rattle.std.proofs.lemmas.List.{ext_get_or}
use Rattle.ark_math.specs.Field.{FieldOn, IsField, power, minus}
use Rattle.ark_math.specs.Univariate.{added, difference, scaled, product, IsBelow, IsValue, value_below, of_list}
use Rattle.ark_math.proofs.Algebra.Groups.{one_times}
use Rattle.ark_math_polynomials.proofs.Polynomials.UnivariateValues.{value_is, one_value, value-added, value-difference, value-scaled, value_below-added}
use Rattle.ark_math_polynomials.proofs.Polynomials.UnivariateProducts.{value-product}
use Rattle.ark_bit_reversed.specs.Blocks.{AreReversed, AreValuesFrom, IsPowerOfTwo}
use Rattle.ark_bit_reversed.proofs.Elements.{power_of_block}
use Rattle.ark_bit_reversed.proofs.Callers.Splits.{value_by_halves, value_of_same}

module _ {F : Type 0} (K : FieldOn F) (N : IsField K) where
  -- at the elements of a block, as many as a power of two, that power is the element that the block is named by
  pub power_at_block : (n m b : ℕ) (x : ℕ → F) → AreReversed K n x → IsPowerOfTwo m → suc b * m ≤ n → (i : ℕ) → i < m → power K (x (b * m + i)) m ≡ x b
  power_at_block n m b x rev p within i l =
      subst (λ t. i < t → b * t + i < n → power K (x (b * t + i)) t ≡ x b) (sym p.1) (power_of_block K N n x rev p.0 b i) l (omega (arith, l, within))

  -- at the first elements it is one
  pub power_at_first : (n m : ℕ) (x : ℕ → F) → AreReversed K n x → IsPowerOfTwo m → m ≤ n → (i : ℕ) → i < m → power K (x i) m ≡ K.one
  power_at_first n m x rev p within i l =
      let place : i ≡ 0 * m + i = omega arith in
      ap (λ j. power K (x j) m) place ∙ power_at_block n m 0 x rev p (omega (arith, within)) i l ∙ rev.first

  -- and at as many more it is minus one
  pub power_at_next : (n m : ℕ) (x : ℕ → F) → AreReversed K n x → IsPowerOfTwo m → m + m ≤ n → (i : ℕ) → i < m → power K (x (m + i)) m ≡ K.negated K.one
  power_at_next n m x rev p within i l =
      let place : m + i ≡ 1 * m + i = omega arith in
      ap (λ j. power K (x j) m) place
      ∙ power_at_block n m 1 x rev p (omega (arith, within)) i l
      ∙ rev.opposites 0 (omega (arith, l, within))
      ∙ ap K.negated rev.first

  module _ (x : ℕ → F) (s n : ℕ) where
    -- products have the values' products
    pub values-product : (a b : ℕ → F) (u v w : List F) → AreValuesFrom K x s n a u → AreValuesFrom K x s n b v → length w ≡ n → ((i : ℕ) → i < n → of_list K w i ≡ K.times (of_list K u i) (of_list K v i)) → AreValuesFrom K x s n (product K a b) w
    values-product a b u v w U V len each =
        record { len = len; values = λ i l. subst (IsValue K (product K a b) (x (s + i))) (sym (each i l)) (value-product K N a b (x (s + i)) _ _ (U.values i l) (V.values i l)) }

    -- sums have their sums
    pub values-added : (a b : ℕ → F) (u v w : List F) → AreValuesFrom K x s n a u → AreValuesFrom K x s n b v → length w ≡ n → ((i : ℕ) → i < n → of_list K w i ≡ K.plus (of_list K u i) (of_list K v i)) → AreValuesFrom K x s n (added K a b) w
    values-added a b u v w U V len each =
        record { len = len; values = λ i l. subst (IsValue K (added K a b) (x (s + i))) (sym (each i l)) (value-added K N a b (x (s + i)) _ _ (U.values i l) (V.values i l)) }

    -- differences have their differences
    pub values-difference : (a b : ℕ → F) (u v w : List F) → AreValuesFrom K x s n a u → AreValuesFrom K x s n b v → length w ≡ n → ((i : ℕ) → i < n → of_list K w i ≡ minus K (of_list K u i) (of_list K v i)) → AreValuesFrom K x s n (difference K a b) w
    values-difference a b u v w U V len each =
        record { len = len; values = λ i l. subst (IsValue K (difference K a b) (x (s + i))) (sym (each i l)) (value-difference K N a b (x (s + i)) _ _ (U.values i l) (V.values i l)) }

    -- and what is scaled has each value scaled
    pub values-scaled : (c : F) (a : ℕ → F) (u w : List F) → AreValuesFrom K x s n a u → length w ≡ n → ((i : ℕ) → i < n → of_list K w i ≡ K.times c (of_list K u i)) → AreValuesFrom K x s n (scaled K c a) w
    values-scaled c a u w U len each =
        record { len = len; values = λ i l. subst (IsValue K (scaled K c a) (x (s + i))) (sym (each i l)) (value-scaled K N c a (x (s + i)) _ (U.values i l)) }

    -- values of a polynomial below a bound, from the sums of its parts
    pub values_from : (k : ℕ) (a : ℕ → F) (u : List F) → IsBelow K k a → length u ≡ n → ((i : ℕ) → i < n → of_list K u i ≡ value_below K k a (x (s + i))) → AreValuesFrom K x s n a u
    values_from k a u below len each = record { len = len; values = λ i l. (k, below, each i l) }

    -- and back
    value_item : (k : ℕ) (a : ℕ → F) (u : List F) → IsBelow K k a → AreValuesFrom K x s n a u → (i : ℕ) → i < n → of_list K u i ≡ value_below K k a (x (s + i))
    value_item k a u below U i l = value_is K N k a (x (s + i)) (of_list K u i) below (U.values i l)

  -- the same of the first elements
  module _ (x : ℕ → F) (n k : ℕ) (a : ℕ → F) (u : List F) (below : IsBelow K k a) where
    pub first_values : length u ≡ n → ((i : ℕ) → i < n → of_list K u i ≡ value_below K k a (x i)) → AreValuesFrom K x 0 n a u
    first_values len each = values_from x 0 n k a u below len (λ i l. let place : i ≡ 0 + i = omega arith in each i l ∙ ap (λ j. value_below K k a (x j)) place)

    pub first_item : AreValuesFrom K x 0 n a u → (i : ℕ) → i < n → of_list K u i ≡ value_below K k a (x i)
    first_item U i l = let place : 0 + i ≡ i = omega arith in value_item x 0 n k a u below U i l ∙ ap (λ j. value_below K k a (x j)) place

  -- at the first m elements coefficients from m on count as those m before them
  pub values_wrapped : (size m : ℕ) (x a r : ℕ → F) (v : List F) → AreReversed K size x → IsPowerOfTwo m → m ≤ size → IsBelow K (m + m) a → IsBelow K m r → ((i : ℕ) → i < m → r i ≡ K.plus (a i) (a (m + i))) → AreValuesFrom K x 0 m a v → AreValuesFrom K x 0 m r v
  values_wrapped size m x a r v rev two room below few sums V =
      values_from x 0 m m r v few V.len (λ i l.
      let z = x (0 + i) in
      let high : ℕ → F = λ j. a (m + j) in
      let place : 0 + i ≡ i = omega arith in
      value_item x 0 m (m + m) a v below V i l
      ∙ value_by_halves K N m a z K.one (ap (λ j. power K (x j) m) place ∙ power_at_first size m x rev two room i l)
      ∙ ap (K.plus (value_below K m a z)) (one_times K N (value_below K m high z))
      ∙ sym (value_below-added K N m a high z)
      ∙ value_of_same K N m (added K a high) r z (λ j b. sym (sums j b)))
