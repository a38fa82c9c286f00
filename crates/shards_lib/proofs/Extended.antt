-- What numbers at given places tell at the others.
use Rattle.std.proofs.Common.{◌≡◌, ◌≢◌, ℕ, ◌*◌, ◌+◌, ◌<◌, ◌≤◌, List, length, get_or, sym, ◌∙◌, ap, refl, subst, arith}
use Rattle.ark_math_points.specs.AtPoints.{AreDifferent}
use Rattle.ark_math.specs.Field.{FieldOn, IsField, natural}
use Rattle.ark_math.specs.Module.{itself, sum_below}
use Rattle.ark_math.specs.Univariate.{IsBelow, value_below}
use Rattle.ark_math.proofs.Algebra.Sums.{sum_below-same}
use Rattle.ark_math_polynomials.proofs.Polynomials.Zeros.{same_from_values}
use Rattle.shards_lib.specs.Numbers.{Numbered, number_at_place, place_element, value_at_place}
use Rattle.shards_lib.specs.PlaceValues.{some_polynomial}

module _ {F : Type 0} (s : Numbered F) (N : IsField s.field)
    (inverts : (x : F) → x ≢ s.field.zero → s.field.times x (s.inverse x) ≡ s.field.one)
    (k n : ℕ) (first : AreDifferent k (place_element s.field s.root n)) where
  abbrev K : FieldOn F
  K = s.field

  abbrev x : ℕ → F
  x = place_element K s.root n

  -- a polynomial that has the values at as many different places has them at all
  pub told_elsewhere : (given : List ℕ) (values a : ℕ → F) → AreDifferent k (λ c. x (get_or given c 0)) → IsBelow K k a
      → ((c : ℕ) → c < k → value_below K k a (x (get_or given c 0)) ≡ value_at_place s k n values (get_or given c 0))
      → (i : ℕ) → value_below K k a (x i) ≡ value_at_place s k n values i
  told_elsewhere given values a different below are i =
      let p = some_polynomial s N inverts k n first values in
      let same : p.0 ≡ a = same_from_values K N k p.0 a (λ c. x (get_or given c 0)) p.1 below different (λ c l. sym (p.2 (get_or given c 0)) ∙ sym (are c l)) in
      ap (λ q. value_below K k q (x i)) (sym same) ∙ sym (p.2 i)
