-- The weights of points, by the polynomials that are zero at all points but one.
use Rattle.std.proofs.Common.{◌≡◌, ◌≢◌, ℕ, zero, suc, ◌<◌, ◌≤◌, ◌⊎◌, List, inl, inr, length, refl, sym, ◌∙◌, ap, subst, arith}
use Rattle.std.proofs.lemmas.Bool.{cases_lt}
use Rattle.ark_math.specs.Field.{FieldOn, IsField}
use Rattle.ark_math.specs.Module.{itself, sum_below}
use Rattle.ark_math.specs.Univariate.{IsBelow, IsValue, added, scaled, nothing, of_list, value_below}
use Rattle.ark_math.proofs.Algebra.Groups.{itself_is_module}
use Rattle.ark_math.proofs.Algebra.Powers.{times_zero}
use Rattle.ark_math.proofs.Algebra.Regrouped.{sum_below-single}
use Rattle.ark_math.proofs.Algebra.Ring.{ring3}
use Rattle.ark_math.proofs.Algebra.Solve.{◌⊗◌}
use Rattle.ark_math.proofs.Algebra.Sums.{sum_below-same}
use Rattle.ark_math.proofs.Lists.Tabulated.{is_tabulated}
use Rattle.ark_math_polynomials.proofs.Polynomials.Univariate.{added-below, scaled-below}
use Rattle.ark_math_polynomials.proofs.Polynomials.UnivariateValues.{value_is, value-added, value-nothing, value-scaled}
use Rattle.ark_math_polynomials.proofs.Polynomials.Zeros.{same_from_values}
use Rattle.ark_math_points.specs.AtPoints.{AreDifferent, AreWeightsAt, HasValues, differences}
use Rattle.ark_math_points.proofs.AtPoints.Basis.{basis, basis-below, basis-value, differences-some, differences-zero}

-- the sum of such polynomials, each times a factor
abbrev combined : {F : Type 0} → FieldOn F → (ℕ → F) → (ℕ → F) → ℕ → ℕ → ℕ → F
combined K x c n zero = nothing K
combined K x c n (suc m) = added K (combined K x c n m) (scaled K (c m) (basis K x m n))

module _ {F : Type 0} (K : FieldOn F) (N : IsField K) (x : ℕ → F) where
  combined-below : (c : ℕ → F) (n m : ℕ) → m ≤ n → IsBelow K n (combined K x c n m)
  combined-below c n zero l = λ i b. refl
  combined-below c n (suc m) l =
      added-below K N n (combined K x c n m) (scaled K (c m) (basis K x m n)) (combined-below c n m (omega arith))
      (scaled-below K N n (basis K x m n) (c m) (basis-below K N x m n (omega arith)))

  combined-value : (c : ℕ → F) (n m : ℕ) (t : F) → IsValue K (combined K x c n m) t (sum_below (itself K) m (λ i. K.times (c i) (differences K x i n t)))
  combined-value c n zero t = value-nothing K N t
  combined-value c n (suc m) t =
      value-added K N (combined K x c n m) (scaled K (c m) (basis K x m n)) t (sum_below (itself K) m (λ i. K.times (c i) (differences K x i n t))) (K.times (c m) (differences K x m n t))
      (combined-value c n m t) (value-scaled K N (c m) (basis K x m n) t (differences K x m n t) (basis-value K N x m n t))

  -- a factor for each point, such that the sum has the values y
  module _ (n : ℕ) (y : ℕ → F) (different : AreDifferent n x) where
    pick : (i : ℕ) → (i < n) ⊎ (n ≤ i) → F
    pick i (inl l) = K.times (y i) (N.inverts (differences K x i n (x i)) (differences-some K N x i n different l)).0
    pick i (inr m) = K.zero

    pick-is : (i : ℕ) (h : (i < n) ⊎ (n ≤ i)) → i < n → K.times (pick i h) (differences K x i n (x i)) ≡ y i
    unfolding pick
    pick-is i (inl l) inside =
        let v = N.inverts (differences K x i n (x i)) (differences-some K N x i n different l) in
        ring3 K N (λ y v d. ((y ⊗ v) ⊗ d, y ⊗ (d ⊗ v))) refl (y i) v.0 (differences K x i n (x i))
        ∙ ap (K.times (y i)) v.1
        ∙ N.times_one (y i)
    pick-is i (inr m) inside = absurd (omega (arith, m, inside))

    -- so there is a polynomial below n with any values at n different points
    pub through_values : (b : ℕ → F) × IsBelow K n b × HasValues K n x y b
    through_values =
        let c = λ (i : ℕ). pick i (cases_lt i n) in (
          combined K x c n n,
          combined-below c n n (omega arith),
          λ j l.
              subst (IsValue K (combined K x c n n) (x j))
              (sum_below-single (itself_is_module K N) n j (λ i. K.times (c i) (differences K x i n (x j))) l
              (λ i k ne. ap (K.times (c i)) (differences-zero K N x i n j l (λ e. ne (sym e))) ∙ times_zero K N (c i))
              ∙ pick-is j (cases_lt j n) l)
              (combined-value c n n (x j)),
        )

  pub weights_are : (n : ℕ) (tau : F) (weights : List F) (inverse : ℕ → F) → AreDifferent n x → length weights ≡ n → ((i : ℕ) → i < n → K.times (inverse i) (differences K x i n (x i)) ≡ K.one) → ((i : ℕ) → i < n → of_list K weights i ≡ K.times (inverse i) (differences K x i n tau)) → AreWeightsAt K n x tau weights
  weights_are n tau weights inverse different count one is = record {
    count = count;
    give = λ a below.
        let y = λ (i : ℕ). value_below K n a (x i) in
        let c = λ (i : ℕ). K.times (y i) (inverse i) in
        let b = combined K x c n n in
        let short : IsBelow K n b = combined-below c n n (omega arith) in
        let value = λ (t : F). sum_below (itself K) n (λ i. K.times (c i) (differences K x i n t)) in
        let there : (j : ℕ) → j < n → value (x j) ≡ y j = λ j l.
        sum_below-single (itself_is_module K N) n j (λ i. K.times (c i) (differences K x i n (x j))) l
        (λ i k ne. ap (K.times (c i)) (differences-zero K N x i n j l (λ e. ne (sym e))) ∙ times_zero K N (c i))
        ∙ ring3 K N (λ y v d. ((y ⊗ v) ⊗ d, y ⊗ (v ⊗ d))) refl (y j) (inverse j) (differences K x j n (x j))
        ∙ ap (K.times (y j)) (one j l)
        ∙ N.times_one (y j) in
        let same : b ≡ a = same_from_values K N n b a x short below different
        (λ j l. sym (value_is K N n b (x j) (value (x j)) short (combined-value c n n (x j))) ∙ there j l) in
        sum_below-same (itself K) n (λ i. K.times (of_list K weights i) (y i)) (λ i. K.times (c i) (differences K x i n tau))
        (λ i l. ap (λ t. K.times t (y i)) (is i l) ∙ ring3 K N (λ y v d. ((v ⊗ d) ⊗ y, (y ⊗ v) ⊗ d)) refl (y i) (inverse i) (differences K x i n tau))
        ∙ value_is K N n b tau (value tau) short (combined-value c n n tau)
        ∙ ap (λ p. value_below K n p tau) same;
  }

  -- with the values of a polynomial below n at the points they give its value
  pub weighted_values : (n : ℕ) (y : ℕ → F) (tau : F) (weights : List F) (a : ℕ → F) → AreWeightsAt K n x tau weights → IsBelow K n a → HasValues K n x y a → IsValue K a tau (sum_below (itself K) n (λ i. K.times (of_list K weights i) (y i)))
  weighted_values n y tau weights a w below values = (
    n,
    below,
    sum_below-same (itself K) n (λ i. K.times (of_list K weights i) (y i)) (λ i. K.times (of_list K weights i) (value_below K n a (x i)))
        (λ i l. ap (K.times (of_list K weights i)) (value_is K N n a (x i) (y i) below (values i l)))
        ∙ w.give a below,
  )

  -- a weight times the product of the point's differences to the others is that of tau
  weight-times : (n k : ℕ) (tau : F) (weights : List F) → k < n → AreWeightsAt K n x tau weights → K.times (of_list K weights k) (differences K x k n (x k)) ≡ differences K x k n tau
  weight-times n k tau weights l w =
      let a = basis K x k n in
      let is = λ (t : F). value_is K N n a t (differences K x k n t) (basis-below K N x k n l) (basis-value K N x k n t) in
      ap (K.times (of_list K weights k)) (is (x k))
      ∙ sym (sum_below-single (itself_is_module K N) n k (λ i. K.times (of_list K weights i) (value_below K n a (x i))) l
      (λ i b ne. ap (K.times (of_list K weights i)) (sym (is (x i)) ∙ differences-zero K N x k n i b ne) ∙ times_zero K N (of_list K weights i)))
      ∙ w.give a (basis-below K N x k n l)
      ∙ sym (is tau)

  same_quotient : (d s t : F) → d ≢ K.zero → K.times s d ≡ K.times t d → s ≡ t
  same_quotient d s t some e =
      let v = N.inverts d some in
      sym (N.times_one s)
      ∙ ap (K.times s) (sym v.1)
      ∙ sym (N.times_assoc s d v.0)
      ∙ ap (λ u. K.times u v.0) e
      ∙ N.times_assoc t d v.0
      ∙ ap (K.times t) v.1
      ∙ N.times_one t

  -- there is one list of weights
  pub one_list_of_weights : (n : ℕ) (tau : F) (weights other : List F) → AreDifferent n x → AreWeightsAt K n x tau weights → AreWeightsAt K n x tau other → other ≡ weights
  one_list_of_weights n tau weights other different w o =
      is_tabulated K.zero other n (of_list K weights) o.count
      (λ k l. same_quotient (differences K x k n (x k)) (of_list K other k) (of_list K weights k) (differences-some K N x k n different l)
      (weight-times n k tau other l o ∙ sym (weight-times n k tau weights l w)))
      ∙ sym (is_tabulated K.zero weights n (of_list K weights) w.count (λ k l. refl))
