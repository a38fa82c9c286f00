-- The coefficients of a product from a place on, summed up factor by factor; and values at points from those past their number.
use Rattle.std.proofs.Common.{◌≡◌, ℕ, suc, ◌+◌, ◌-◌, ◌<◌, ◌≤◌, List, length, sym, ◌∙◌, ap, subst, arith}
use Rattle.ark_math.specs.Field.{FieldOn, IsField}
use Rattle.ark_math.specs.Module.{itself, sum_below}
use Rattle.ark_math.specs.Univariate.{IsBelow, IsValue, of_list, product}
use Rattle.ark_math.proofs.Algebra.Groups.{itself_is_module, zero_scale}
use Rattle.ark_math.proofs.Algebra.Regrouped.{sum_below-past}
use Rattle.ark_math_polynomials.proofs.Polynomials.Univariate.{same_below}
use Rattle.ark_math_polynomials.proofs.Polynomials.UnivariateLists.{of_list-past}
use Rattle.ark_math_polynomials.proofs.Polynomials.UnivariateProducts.{product-below}
use Rattle.ark_math_polynomials.specs.Nodes.{nodes}
use Rattle.ark_math_points.specs.AtPoints.{HasValues}
use Rattle.ark_subproducts.specs.Tree.{IsScaledRemainder}
use Rattle.ark_subproducts.proofs.Nodes.{cofactor, cofactor-below, cofactor-whole, nodes-below}
use Rattle.ark_subproducts.proofs.ScaledRemainders.{remainder_at_leaf}

module _ {F : Type 0} (K : FieldOn F) (N : IsField K) where
  -- a sum over the coefficients of one factor
  pub product_by_few : (n len : ℕ) (a b : ℕ → F) (j : ℕ) → IsBelow K len a → len ≤ n + 1 → sum_below (itself K) len (λ k. K.times (a k) (b (n + j - k))) ≡ product K a b (n + j)
  product_by_few n len a b j below l =
      sym (sum_below-past (itself_is_module K N) len (suc (n + j)) (λ k. K.times (a k) (b (n + j - k))) (omega arith)
      (λ k g _. ap (λ x. K.times x (b (n + j - k))) (below k g) ∙ zero_scale N (itself_is_module K N) (b (n + j - k))))

  module _ (points : List F) (s : ℕ → F) (xs : List F) (below : IsBelow K (length points) s) where
    -- a list of the coefficients of a product over points past the points' number has all of them
    pub past_points : length xs ≡ length points → ((j : ℕ) → j < length points → of_list K xs j ≡ product K (nodes K points) s (length points + j)) → of_list K xs ≡ (λ j. product K (nodes K points) s (j + length points))
    past_points len each =
        same_below K (length points) (of_list K xs) (λ j. product K (nodes K points) s (j + length points))
        (λ j l. of_list-past K xs j (omega (arith, l, len)))
        (λ j l. product-below K N (length points + 1) (length points) (nodes K points) s (nodes-below K N points) below (j + length points) (omega (arith, l)))
        (λ j l. let e : length points + j ≡ j + length points = omega arith in each j l ∙ ap (product K (nodes K points) s) e)

    -- and its values are those of what is stood for
    pub values_past : (p : ℕ → F) (ys : List F) → of_list K xs ≡ (λ j. product K (nodes K points) s (j + length points)) → HasValues K (length points) (of_list K points) (of_list K ys) (of_list K xs) → IsScaledRemainder K (length points) (nodes K points) p s → HasValues K (length points) (of_list K points) (of_list K ys) p
    values_past p ys is values stands k l =
        remainder_at_leaf K N (length points) (length points) (nodes K points) p s (cofactor K N points k) (of_list K points k) (of_list K ys k) (omega (arith, l)) below
        (cofactor-below K N points k l) (cofactor-whole K N points k l) stands
        (subst (λ a. IsValue K a (of_list K points k) (of_list K ys k)) is (values k l))
