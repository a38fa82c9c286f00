-- Products from the coefficients of those with the same values at the first elements of a table, and sums of products of values.
use Rattle.std.proofs.Common.{◌≡◌, ℕ, ◌+◌, ◌<◌, ◌≤◌, List, length, sym, ◌∙◌, ap, subst, arith}
use Rattle.ark_math.specs.Field.{FieldOn, IsField}
use Rattle.ark_math.specs.Univariate.{IsBelow, IsValue, added, of_list, product}
use Rattle.ark_math_polynomials.proofs.Polynomials.UnivariateLoops.{cut, cut-inside, cut-outside}
use Rattle.ark_math_polynomials.proofs.Polynomials.UnivariateProducts.{value-product}
use Rattle.ark_math_polynomials.proofs.Polynomials.UnivariateValues.{value-added}
use Rattle.ark_bit_reversed.specs.Blocks.{AreReversed, AreValuesFrom, IsPowerOfTwo}
use Rattle.ark_bit_reversed.proofs.Callers.Runs.{values_wrapped}

module _ {F : Type 0} (K : FieldOn F) (N : IsField K) where
  -- what has the values of a polynomial below start + n at n elements where x ^ n is one has its coefficients from start on
  pub wrapped_past : (size n start : ℕ) (x a : ℕ → F) (v : List F) (p : ℕ → F) → AreReversed K size x → IsPowerOfTwo n → n ≤ size → start ≤ n → IsBelow K (start + n) a → AreValuesFrom K x 0 n a v → ((r : ℕ → F) → IsBelow K n r → AreValuesFrom K x 0 n r v → p ≡ r) → (i : ℕ) → start ≤ i → i < n → p i ≡ a i
  wrapped_past size n start x a v p rev two room few below V only i past inside =
      let r : ℕ → F = cut K n (λ j. K.plus (a j) (a (n + j))) in
      ap (λ t. t i)
      (only r (cut-outside K n (λ j. K.plus (a j) (a (n + j))))
      (values_wrapped K N size n x a r v rev two room (λ j l. below j (omega (arith, l, few))) (cut-outside K n (λ j. K.plus (a j) (a (n + j)))) (λ j l. cut-inside K n (λ j. K.plus (a j) (a (n + j))) j l) V))
      ∙ cut-inside K n (λ j. K.plus (a j) (a (n + j))) i inside
      ∙ ap (K.plus (a i)) (below (n + i) (omega (arith, past)))
      ∙ N.plus_zero (a i)

  -- sums of two products of values are the values of the sum of products
  pub values_of_sums : (x : ℕ → F) (n : ℕ) (f a s b : ℕ → F) (v u y z w : List F) → AreValuesFrom K x 0 n f v → AreValuesFrom K x 0 n a u → AreValuesFrom K x 0 n s y → AreValuesFrom K x 0 n b z → length w ≡ n
      → ((i : ℕ) → i < n → of_list K w i ≡ K.plus (K.times (of_list K v i) (of_list K u i)) (K.times (of_list K y i) (of_list K z i))) → AreValuesFrom K x 0 n (added K (product K f a) (product K s b)) w
  values_of_sums x n f a s b v u y z w V U Y Z len each = record {
    len = len;
    values = λ i l.
        subst (IsValue K (added K (product K f a) (product K s b)) (x (0 + i))) (sym (each i l))
        (value-added K N (product K f a) (product K s b) (x (0 + i)) (K.times (of_list K v i) (of_list K u i)) (K.times (of_list K y i) (of_list K z i))
        (value-product K N f a (x (0 + i)) (of_list K v i) (of_list K u i) (V.values i l) (U.values i l))
        (value-product K N s b (x (0 + i)) (of_list K y i) (of_list K z i) (Y.values i l) (Z.values i l)));
  }
