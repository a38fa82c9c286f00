-- The sum of weights times products of x - z over the other points, from the product over all points and from power sums.
use Rattle.std.proofs.Common.{◌≡◌, ℕ, suc, ◌+◌, ◌-◌, ◌<◌, List, [], ◌∷◌, length, refl, sym, ◌∙◌, ap, ap₂, subst, arith}
use mathlib.Core.Path.{fun_ext}
use Rattle.ark_math.specs.Field.{FieldOn, IsField, power}
use Rattle.ark_math_polynomials.specs.Linear.{linear_factor}
use Rattle.ark_math.specs.Module.{itself, sum_below}
use Rattle.ark_math.specs.Univariate.{IsBelow, IsValue, monomial, of_list, product, scaled, value_below}
use Rattle.ark_math.proofs.Algebra.Groups.{itself_is_module, zero_plus}
use Rattle.ark_math.proofs.Algebra.Powers.{times_zero}
use Rattle.ark_math.proofs.Algebra.Regrouped.{sum_below-first, sum_below-swap, sum_below-zero}
use Rattle.ark_math.proofs.Algebra.Ring.{ring3}
use Rattle.ark_math.proofs.Algebra.Solve.{◌⊗◌}
use Rattle.ark_math.proofs.Algebra.Sums.{sum_below-add, sum_below-same, sum_below-scale}
use Rattle.ark_math_polynomials.proofs.Polynomials.Univariate.{monomial-below}
use Rattle.ark_math_polynomials.proofs.Polynomials.UnivariateLists.{of_list-below}
use Rattle.ark_math_polynomials.proofs.Polynomials.UnivariateProducts.{one-product, product-added, product-below, product-nothing, product_assoc, product_comm}
use Rattle.ark_math_polynomials.proofs.Polynomials.UnivariateValues.{value_is}
use Rattle.ark_subproducts.proofs.Multiples.{product-scaled}
use Rattle.ark_subproducts.proofs.Nodes.{nodes-below}
use Rattle.ark_subproducts.proofs.ScaledRemainders.{quotient-item}
use Rattle.ark_subproducts.specs.Steps.{power_sum}
use Rattle.ark_math_polynomials.specs.Nodes.{nodes}
use Rattle.ark_subproducts.specs.Tree.{weighed}

module _ {F : Type 0} (K : FieldOn F) (N : IsField K) where
  -- a coefficient is the sum of each weight times the value at its point of what the product has past that coefficient
  by_values : (zs : List F) (w c p : ℕ → F) (m n j : ℕ) → IsBelow K m c → IsBelow K (n + 1) p → p ≡ product K c (nodes K zs)
      → product K c (weighed K zs w) j ≡ sum_below (itself K) (length zs) (λ i. K.times (w i) (value_below K n (λ k. p (suc (k + j))) (of_list K zs i)))
  by_values [] w c p m n j short below whole = ap (λ t. t j) (product-nothing K N c)
  by_values (z ∷ zs) w c p m n j short below whole =
      let line : ℕ → F = linear_factor K z in
      let rest : ℕ → F = product K c (nodes K zs) in
      let v : ℕ → F = λ i. w (suc i) in
      let last : p ≡ product K (product K c line) (nodes K zs) = whole ∙ sym (product_assoc K N c line (nodes K zs)) in
      let first : p ≡ product K rest line =
      whole ∙ (ap (product K c) (product_comm K N line (nodes K zs)) ∙ sym (product_assoc K N c (nodes K zs) line)) in
      let own : rest j ≡ value_below K n (λ k. p (suc (k + j))) z =
      value_is K N n (λ k. p (suc (k + j))) z (rest j) (λ k l. below (suc (k + j)) (omega arith))
      (subst (λ t. IsValue K (λ k. t (suc (k + j))) z (rest j)) (sym first)
      (quotient-item K N rest (m + (length zs + 1) - 1) z j (product-below K N m (length zs + 1) c (nodes K zs) short (nodes-below K N zs)))) in
      ap (λ t. t j) (product-added K N c (scaled K (w 0) (nodes K zs)) (product K line (weighed K zs v)))
      ∙ ap₂ K.plus
      (product-scaled K N c (nodes K zs) (w 0) j ∙ ap (K.times (w 0)) own)
      (ap (λ t. t j) (sym (product_assoc K N c line (weighed K zs v)))
      ∙ by_values zs v (product K c line) p (m + 2 - 1) n j (product-below K N m 2 c line short (of_list-below K (K.negated z ∷ K.one ∷ []))) below last)
      ∙ sym (sum_below-first (itself_is_module K N) (length zs) (λ i. K.times (w i) (value_below K n (λ k. p (suc (k + j))) (of_list K (z ∷ zs) i))))

  -- weights times values, by the power sums of the weights
  by_power_sums : (zs : List F) (w a : ℕ → F) (n : ℕ) → sum_below (itself K) (length zs) (λ i. K.times (w i) (value_below K n a (of_list K zs i))) ≡ sum_below (itself K) n (λ k. K.times (a k) (power_sum K zs w k))
  by_power_sums zs w a n =
      let part : ℕ → ℕ → F = λ i k. K.times (w i) (K.times (power K (of_list K zs i) k) (a k)) in
      sum_below-same (itself K) (length zs) (λ i. K.times (w i) (value_below K n a (of_list K zs i))) (λ i. sum_below (itself K) n (part i))
      (λ i l. sym (sum_below-scale (itself_is_module K N) n (w i) (λ k. K.times (power K (of_list K zs i) k) (a k))))
      ∙ sum_below-swap (itself_is_module K N) (length zs) n part
      ∙ sum_below-same (itself K) n (λ k. sum_below (itself K) (length zs) (λ i. part i k)) (λ k. K.times (a k) (power_sum K zs w k))
      (λ k l.
      sum_below-same (itself K) (length zs) (λ i. part i k) (λ i. K.times (a k) (K.times (w i) (power K (of_list K zs i) k)))
      (λ i b. ring3 K N (λ w p a. (w ⊗ (p ⊗ a), a ⊗ (w ⊗ p))) refl (w i) (power K (of_list K zs i) k) (a k))
      ∙ sum_below-scale (itself_is_module K N) (length zs) (a k) (λ i. K.times (w i) (power K (of_list K zs i) k)))

  -- a coefficient past n of a product whose second factor is below n
  item_past : (m s : ℕ → F) (n j : ℕ) → IsBelow K n s → product K m s (j + n) ≡ sum_below (itself K) n (λ k. K.times (m (suc (k + j))) (s (n - 1 - k)))
  item_past m s n j below =
      let f : ℕ → F = λ i. K.times (m i) (s (j + n - i)) in
      let all : suc (j + n) ≡ suc j + n = omega arith in
      ap (λ t. sum_below (itself K) t f) all
      ∙ sum_below-add (itself_is_module K N) (suc j) n f
      ∙ ap₂ K.plus
      (sum_below-zero (itself_is_module K N) (suc j) f (λ i l. ap (K.times (m i)) (below (j + n - i) (omega arith)) ∙ times_zero K N (m i)))
      (sum_below-same (itself K) n (λ k. f (suc j + k)) (λ k. K.times (m (suc (k + j))) (s (n - 1 - k)))
      (λ k l.
      let here : suc j + k ≡ suc (k + j) = omega arith in
      let there : j + n - (suc j + k) ≡ n - 1 - k = omega arith in
      ap₂ (λ a b. K.times (m a) (s b)) here there))
      ∙ zero_plus (itself_is_module K N) (sum_below (itself K) n (λ k. K.times (m (suc (k + j))) (s (n - 1 - k))))

  -- where s has the power sums of the weights, that of the power 0 last
  pub weighed_by_power_sums : (zs : List F) (w s : ℕ → F) → IsBelow K (length zs) s → ((k : ℕ) → k < length zs → s k ≡ power_sum K zs w (length zs - 1 - k)) → weighed K zs w ≡ (λ j. product K (nodes K zs) s (j + length zs))
  weighed_by_power_sums zs w s below sums =
      let n : ℕ = length zs in
      let m : ℕ → F = nodes K zs in
      let one : ℕ → F = monomial K 0 K.one in
      fun_ext (λ j.
      ap (λ t. t j) (sym (one-product K N (weighed K zs w)))
      ∙ by_values zs w one m 1 n j (monomial-below K 0 1 K.one (omega arith)) (nodes-below K N zs) (sym (one-product K N m))
      ∙ by_power_sums zs w (λ k. m (suc (k + j))) n
      ∙ sum_below-same (itself K) n (λ k. K.times (m (suc (k + j))) (power_sum K zs w k)) (λ k. K.times (m (suc (k + j))) (s (n - 1 - k)))
      (λ k l.
      let back : n - 1 - (n - 1 - k) ≡ k = omega arith in
      ap (K.times (m (suc (k + j)))) (ap (power_sum K zs w) (sym back) ∙ sym (sums (n - 1 - k) (omega arith))))
      ∙ sym (item_past m s n j below))
