-- What stands for a polynomial over a part of the points: down to a factor, by its last coefficients, and at a leaf.
use Rattle.std.proofs.Common.{◌≡◌, ℕ, zero, suc, ◌+◌, ◌-◌, ◌<◌, ◌≤◌, [], ◌∷◌, refl, sym, ◌∙◌, ap, ap₂, subst, arith}
use mathlib.Core.Path.{fun_ext}
use Rattle.ark_math.specs.Field.{FieldOn, IsField, minus}
use Rattle.ark_math_polynomials.specs.Linear.{constant, linear_factor}
use Rattle.ark_math.specs.Module.{sum_below, itself}
use Rattle.ark_math.specs.Univariate.{IsBelow, IsValue, added, product}
use Rattle.ark_math.proofs.Algebra.Groups.{itself_is_module, zero_scale}
use Rattle.ark_math.proofs.Algebra.Regrouped.{sum_below-past}
use Rattle.ark_math.proofs.Algebra.Sums.{sum_below-same}
use Rattle.ark_math.proofs.Algebra.Solve.{◌⊗◌, ◌⊕◌, ◌⊖◌, nought}
use Rattle.ark_math.proofs.Algebra.Ring.{ring2}
use Rattle.ark_math_polynomials.proofs.Callers.Remainders.{constant_value, linear_root}
use Rattle.ark_math_polynomials.proofs.Polynomials.UnivariateLists.{of_list-past}
use Rattle.ark_math_polynomials.proofs.Polynomials.UnivariateProducts.{product_comm, product_assoc, product-below, value-product}
use Rattle.ark_math_polynomials.proofs.Polynomials.UnivariateValues.{has_value, one_value, value-added}
use Rattle.ark_math_polynomials.proofs.Polynomials.LinearFactors.{linear-product}
use Rattle.ark_subproducts.specs.Tree.{IsScaledRemainderBefore, IsScaledRemainder}

module _ {F : Type 0} (K : FieldOn F) (N : IsField K) where
  past_item : (q : ℕ → F) (z : F) (i k : ℕ) → product K q (linear_factor K z) (suc (k + i)) ≡ added K (product K (λ j. q (suc (j + i))) (linear_factor K z)) (constant K (q i)) k
  past_item q z i zero =
      let e : 0 + i ≡ i = omega arith in
      linear-product K N q z (suc (0 + i))
      ∙ (ring2 K N (λ a b. (a ⊖ b, (nought ⊖ b) ⊕ a)) refl (q (0 + i)) (K.times z (q (suc (0 + i))))
      ∙ ap₂ K.plus (sym (linear-product K N (λ j. q (suc (j + i))) z 0)) (ap q e))
  past_item q z i (suc j) =
      let e : suc j + i ≡ suc (j + i) = omega arith in
      linear-product K N q z (suc (suc j + i))
      ∙ (ap (λ t. minus K (q t) (K.times z (q (suc (suc j + i))))) e
      ∙ (ring2 K N (λ a b. (a ⊖ b, (a ⊖ b) ⊕ nought)) refl (q (suc (j + i))) (K.times z (q (suc (suc j + i))))
      ∙ ap₂ K.plus (sym (linear-product K N (λ j. q (suc (j + i))) z (suc j))) (sym (of_list-past K (q i ∷ []) (suc j) (omega arith)))))

  -- the coefficient at i of a quotient by x - z is the value at z of the coefficients past i
  pub quotient-item : (q : ℕ → F) (n : ℕ) (z : F) (i : ℕ) → IsBelow K n q → IsValue K (λ k. product K q (linear_factor K z) (suc (k + i))) z (q i)
  quotient-item q n z i below =
      let rest : ℕ → F = λ j. q (suc (j + i)) in
      let there = has_value K N n rest z (λ j l. below (suc (j + i)) (omega arith)) in
      subst (λ t. IsValue K t z (q i)) (sym (fun_ext (past_item q z i)))
      (subst (IsValue K (added K (product K rest (linear_factor K z)) (constant K (q i))) z)
      (ring2 K N (λ a b. ((a ⊗ nought) ⊕ b, b)) refl _ (q i))
      (value-added K N (product K rest (linear_factor K z)) (constant K (q i)) z _ (q i)
      (value-product K N rest (linear_factor K z) z _ K.zero there (linear_root K N z))
      (constant_value K N (q i) z)))

  -- a coefficient of a product with a factor below h, by those at and below the own place
  pub item_by_few : (h n : ℕ) (c s t : ℕ → F) → h ≤ n → 0 < h → IsBelow K h c → ((j : ℕ) → j < h → s (n - h + j) ≡ t j) → product K c s (n - 1) ≡ product K c t (h - 1)
  item_by_few h n c s t l some below same =
      let e : suc (n - 1) ≡ n = omega arith in
      let g : suc (h - 1) ≡ h = omega arith in
      ap (λ m. sum_below (itself K) m (λ i. K.times (c i) (s (n - 1 - i)))) e
      ∙ (sum_below-past (itself_is_module K N) h n (λ i. K.times (c i) (s (n - 1 - i))) l (λ i b _. ap (λ x. K.times x (s (n - 1 - i))) (below i b) ∙ zero_scale N (itself_is_module K N) (s (n - 1 - i)))
      ∙ (sum_below-same (itself K) h (λ i. K.times (c i) (s (n - 1 - i))) (λ i. K.times (c i) (t (h - 1 - i)))
      (λ i b.
      let place : n - 1 - i ≡ n - h + (h - 1 - i) = omega arith in
      ap (K.times (c i)) (ap s place ∙ same (h - 1 - i) (omega arith)))
      ∙ ap (λ m. sum_below (itself K) m (λ i. K.times (c i) (t (h - 1 - i)))) (sym g)))

  -- down to a factor a of m
  pub remainder_of_factor : (end n h : ℕ) (m a b p s t : ℕ → F) → 0 < h → h ≤ end → h ≤ n → IsBelow K (n - h + 1) b → m ≡ product K a b → ((j : ℕ) → j < h → product K b s (end - h + j) ≡ t j) → IsScaledRemainderBefore K end n m p s → IsScaledRemainder K h a p t
  remainder_of_factor end n h m a b p s t some inside l finite whole same stands c z below is =
      let left : ℕ → F = product K c b in
      let whole_left : m ≡ product K left (linear_factor K z) =
      whole
      ∙ (ap (λ t. product K t b) is
      ∙ (product_assoc K N c (linear_factor K z) b
      ∙ (ap (product K c) (product_comm K N (linear_factor K z) b)
      ∙ sym (product_assoc K N c b (linear_factor K z))))) in
      subst (IsValue K p z)
      (ap (λ t. t (end - 1)) (product_assoc K N c b s) ∙ item_by_few h end c (product K b s) t inside some below same)
      (stands left z (λ i g. product-below K N h (n - h + 1) c b below finite i (omega arith)) whole_left)

  -- for what is past `end` of m times s, s itself stands
  pub past_end : (end n k : ℕ) (m s : ℕ → F) → 0 < end → IsBelow K k s → IsScaledRemainderBefore K end n m (λ j. product K m s (j + end)) s
  past_end end n k m s some finite c z below is =
      let d : ℕ → F = product K c s in
      let i : ℕ = end - 1 in
      let e : product K m s ≡ product K d (linear_factor K z) =
      ap (λ t. product K t s) is
      ∙ (product_assoc K N c (linear_factor K z) s
      ∙ (ap (product K c) (product_comm K N (linear_factor K z) s)
      ∙ sym (product_assoc K N c s (linear_factor K z)))) in
      let at : (j : ℕ) → product K d (linear_factor K z) (suc (j + i)) ≡ product K m s (j + end) = λ j.
      (let place : suc (j + i) ≡ j + end = omega (arith, some) in ap (λ t. t (suc (j + i))) (sym e) ∙ ap (product K m s) place) in
      subst (λ t. IsValue K t z (d i)) (fun_ext at) (quotient-item d (n + k - 1) z i (product-below K N n k c s below finite))

  -- the last n coefficients do so as they are
  pub last_coefficients : (end n : ℕ) (m p s t : ℕ → F) → 0 < n → n ≤ end → ((j : ℕ) → j < n → s (end - n + j) ≡ t j) → IsScaledRemainderBefore K end n m p s → IsScaledRemainder K n m p t
  last_coefficients end n m p s t some room same stands c z below is = subst (IsValue K p z) (item_by_few n end c s t room some below same) (stands c z below is)

  -- at a leaf: what is past n of m times s has p's values at the roots
  pub remainder_at_leaf : (n k : ℕ) (m p s c : ℕ → F) (z y : F) → 0 < n → IsBelow K k s → IsBelow K n c → m ≡ product K c (linear_factor K z) → IsScaledRemainder K n m p s → IsValue K (λ j. product K m s (j + n)) z y → IsValue K p z y
  remainder_at_leaf n k m p s c z y some finite below is stands given =
      subst (IsValue K p z)
      (one_value K N (λ j. product K m s (j + n)) z (product K c s (n - 1)) y (past_end n n k m s some finite c z below is) given)
      (stands c z below is)
