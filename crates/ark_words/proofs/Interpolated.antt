-- The polynomial through points, by the numbers of its coefficients.
use Rattle.std.proofs.Common.{◌≡◌, ℕ, zero, suc, ◌%◌, ◌<◌, List, [], ◌∷◌, All, length, map, get_or, refl, sym, ap, ap₂, subst, ◌∙◌, mod-eq_of_lt, arith}
use Rattle.std.proofs.lemmas.List.{length-map, get_or-map, ext_get_or}
use Rattle.ark_math_points.specs.AtPoints.{HasValues}
use Rattle.ark_math.specs.Field.{FieldOn}
use Rattle.ark_math.specs.Module.{itself}
use Rattle.ark_math.specs.Transform.{value_at}
use Rattle.ark_math.specs.Univariate.{IsBelow, IsValue, of_list}
use Rattle.ark_math_polynomials.proofs.Polynomials.UnivariateValues.{value-of_list}
use Rattle.ark_numbers.specs.Fields.{operations, reduced}
use Rattle.ark_numbers.proofs.Values.{NumberField, shown_field, field_laws, elements_of, values_of_elements, value_carried}

module _ {F : Type 0} (S : NumberField F) where
  abbrev K : FieldOn F
  K = S.field

  abbrev L : FieldOn ℕ
  L = operations (shown_field S)

  abbrev number : F → ℕ
  number = S.numbering.number

  -- numbers below the modulus are those of their elements
  below_reduced : (xs : List ℕ) → All (λ x. x < S.modulus) xs → reduced (shown_field S) xs ≡ xs
  below_reduced [] below = refl
  below_reduced (x ∷ xs) below =
      ap₂ (λ y ys. y ∷ ys) (mod-eq_of_lt (below 0 0 (omega arith))) (below_reduced xs (λ i d l. below (suc i) d (omega arith)))

  pub numbers_back : (xs : List ℕ) → All (λ x. x < S.modulus) xs → map number (elements_of S xs) ≡ xs
  numbers_back xs below = values_of_elements S xs ∙ below_reduced xs below

  -- elements with these values have the values of their numbers
  pub values_back : (others : List ℕ) (items points values : List F) → map number items ≡ others → length values ≡ length points
      → map (value_at L (itself L) others) (map number points) ≡ map number values
      → HasValues K (length points) (of_list K points) (of_list K values) (of_list K items)
  values_back others items points values same len e i l =
      let x = get_or points i K.zero in
      let found = value_at K (itself K) items x in
      let n = length-map points number in
      let here : i < length values = omega arith in
      let at_number : number found ≡ number (get_or values i K.zero) =
      value_carried S others (number x) items x found same refl refl
      ∙ sym (ap (value_at L (itself L) others) (get_or-map number points i K.zero 0 l))
      ∙ sym (get_or-map (value_at L (itself L) others) (map number points) i 0 0 (omega arith))
      ∙ ap (λ zs. get_or zs i 0) e
      ∙ get_or-map number values i K.zero 0 here in
      subst (IsValue K (of_list K items) x) (S.numbering.same found (get_or values i K.zero) at_number) (value-of_list K (field_laws S) items x)

  -- lists of one length with the same coefficients
  pub same_list : (c d : List F) → length c ≡ length d → of_list K c ≡ of_list K d → c ≡ d
  same_list c d len e = ext_get_or K.zero c d len (λ i l. ap (λ h. h i) e)
