-- The polynomial with values at the first places, and its values at all.
use Rattle.std.proofs.Common.{◌≡◌, ◌≢◌, ℕ, ◌<◌, List, length, sym, ap, ◌∙◌, refl, arith}
use Rattle.ark_math_points.specs.AtPoints.{AreDifferent, AreWeightsAt, HasValues, differences}
use Rattle.ark_math.specs.Field.{FieldOn, IsField}
use Rattle.ark_math.specs.Module.{itself, sum_below, tabulate}
use Rattle.ark_math.specs.Univariate.{IsBelow, of_list, value_below}
use Rattle.ark_math.proofs.Algebra.Sums.{sum_below-same}
use Rattle.ark_math_points.proofs.AtPoints.Basis.{differences-some}
use Rattle.ark_math_points.proofs.AtPoints.Lagrange.{through_values, weights_are}
use Rattle.ark_math.proofs.Lists.Tabulated.{length-tabulate, get_or-tabulate}
use Rattle.ark_math_polynomials.proofs.Polynomials.UnivariateValues.{value_is}
use Rattle.shards_lib.specs.Numbers.{Numbered, place_element, value_at_place, weight}

module _ {F : Type 0} (s : Numbered F) (N : IsField s.field)
    (inverts : (x : F) → x ≢ s.field.zero → s.field.times x (s.inverse x) ≡ s.field.one)
    (k n : ℕ) (differ : AreDifferent k (place_element s.field s.root n)) where
  abbrev K : FieldOn F
  K = s.field

  abbrev x : ℕ → F
  x = place_element K s.root n

  weights : (i : ℕ) → AreWeightsAt K k x (x i) (tabulate k (weight s k n i))
  weights i =
      weights_are K N x k (x i) (tabulate k (weight s k n i)) (λ j. s.inverse (differences K x j k (x j))) differ (length-tabulate k (weight s k n i))
      (λ j l. N.times_comm _ _ ∙ inverts (differences K x j k (x j)) (differences-some K N x j k differ l))
      (λ j l. get_or-tabulate k (weight s k n i) j K.zero l)

  -- a polynomial's value is told by those at the first k places
  pub value_told : (a values : ℕ → F) (i : ℕ) → IsBelow K k a → ((j : ℕ) → j < k → value_below K k a (x j) ≡ values j) → value_at_place s k n values i ≡ value_below K k a (x i)
  value_told a values i below are =
      sum_below-same (itself K) k (λ j. K.times (weight s k n i j) (values j)) (λ j. K.times (of_list K (tabulate k (weight s k n i)) j) (value_below K k a (x j)))
      (λ j l. ap (K.times (weight s k n i j)) (sym (are j l)) ∙ ap (λ w. K.times w (value_below K k a (x j))) (sym (get_or-tabulate k (weight s k n i) j K.zero l)))
      ∙ (weights i).give a below

  -- there is one with any values there
  pub some_polynomial : (values : ℕ → F) → (a : ℕ → F) × IsBelow K k a × ((i : ℕ) → value_at_place s k n values i ≡ value_below K k a (x i)) × ((j : ℕ) → j < k → value_below K k a (x j) ≡ values j)
  some_polynomial values =
      let p = through_values K N x k values differ in
      let here = λ (j : ℕ) (l : j < k). sym (value_is K N k p.0 (x j) (values j) p.1 (p.2 j l)) in
      (p.0, p.1, (λ i. value_told p.0 values i p.1 here), here)

  -- at the first k places it has these
  pub told_at_first : (values : ℕ → F) (i : ℕ) → i < k → value_at_place s k n values i ≡ values i
  told_at_first values i l =
      let p = some_polynomial values in
      p.2 i ∙ p.3 i l
