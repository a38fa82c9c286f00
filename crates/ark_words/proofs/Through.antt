-- The polynomial through points as words.
use Rattle.std.proofs.Common.{◌≡◌, ◌↔◌, ◌+◌, ◌/◌, ◌<◌, ◌≤◌, ℕ, Option, Some, None, Result, Err, List, All, IsNone, IsSome, length, map, refl, sym, ap, subst, ◌∙◌, ⊎_elim, get_or, rules, arith}
use Rattle.std.proofs.lemmas.List.{length-map, get_or-map}
use mathlib.Core.Path.{fun_ext}
use Rattle.std.proofs.lemmas.Bool.{cases_lt}
use Rattle.ark_math_points.specs.AtPoints.{AreDifferent, HasRepeated, HasValues}
use Rattle.ark_math.specs.Field.{FieldOn}
use Rattle.ark_math.specs.Module.{itself, tabulate}
use Rattle.ark_math.specs.Transform.{value_at}
use Rattle.ark_math.specs.Univariate.{of_list, IsBelow}
use Rattle.ark_math.proofs.Lists.Tabulated.{length-tabulate, get_or-tabulate, tabulate-same}
use Rattle.ark_math_transforms.proofs.Transforms.Carried.{map-tabulate}
use Rattle.ark_math_polynomials.proofs.Polynomials.UnivariateLists.{of_list-past, of_list-below}
use Rattle.ark_numbers.specs.Fields.{operations}
use Rattle.ark_numbers.proofs.Values.{NumberField, shown_field, elements_of, values_at_carried}
use Rattle.ark_words.specs.Interpolations.{AreThrough, AreInterpolating}
use Rattle.ark_words.specs.Numbers.{in_words, number_at, numbers}
use Rattle.ark_words.proofs.Interpolated.{numbers_back, values_back, same_list}
use Rattle.ark_words.proofs.WordLists.{length_read, length-numbers}
use Rattle.ark_words.proofs.WordPolynomials.{AreWritten, written_below}

module _ {F : Type 0} (S : NumberField F) (width : ℕ) where
  abbrev K : FieldOn F
  K = S.field

  abbrev L : FieldOn ℕ
  L = operations (shown_field S)

  abbrev number : F → ℕ
  number = S.numbering.number

  -- numbers that are different are those of different elements
  pub different_numbers : (xs : List F) (points : List ℕ) → map number xs ≡ numbers width points → AreDifferent (length xs) (of_list K xs) → AreDifferent (length points / width) (number_at width points)
  different_numbers xs points read different i j l b e =
      let n : length xs ≡ length points / width = length_read number width xs points read in
      different i j l (omega arith) (S.numbering.same _ _ (item_number i (omega arith) ∙ e ∙ sym (item_number j b)))
    where
      item_number : (k : ℕ) → k < length points / width → number (of_list K xs k) ≡ number_at width points k
      item_number k s =
          let n : length xs ≡ length points / width = length_read number width xs points read in
          sym (get_or-map number xs k K.zero 0 (omega arith)) ∙ ap (λ zs. get_or zs k 0) read ∙ get_or-tabulate (length points / width) (number_at width points) k 0 s

  -- the items of what is written
  abbrev items_of : (a : ℕ → F) → List ℕ → List F
  items_of a new = tabulate (length new / width) a

  items_written : (a : ℕ → F) (new : List ℕ) → AreWritten S width a new → map number (items_of a new) ≡ numbers width new
  items_written a new written =
      map-tabulate number (length new / width) a
      ∙ sym (tabulate-same (length new / width) (number_at width new) (λ i. number (a i)) written)

  items_denote : (a : ℕ → F) (new : List ℕ) → IsBelow K (length new / width) a → a ≡ of_list K (items_of a new)
  items_denote a new below =
      fun_ext (λ i. ⊎_elim
      (λ (s : i < length new / width). sym (get_or-tabulate (length new / width) a i K.zero s))
      (λ (s : length new / width ≤ i).
      let n = length-tabulate (length new / width) a in
      below i s ∙ sym (of_list-past K (items_of a new) i (omega arith)))
      (cases_lt i (length new / width)))

  pub interpolating_written : (points values new : List ℕ) (xs ys : List F) (a : ℕ → F) → map number xs ≡ numbers width points → map number ys ≡ numbers width values
      → length values ≡ length points → length new ≡ length points
      → IsBelow K (length xs) a → HasValues K (length xs) (of_list K xs) (of_list K ys) a
      → ((b : ℕ → F) → IsBelow K (length xs) b → HasValues K (length xs) (of_list K xs) (of_list K ys) b → b ≡ a)
      → AreWritten S width a new → AreInterpolating (in_words width (shown_field S)) points values new
  interpolating_written points values new xs ys a read_x read_y same_y same_new below has only written =
      let many : length xs ≡ length points / width = length_read number width xs points read_x in
      let as_many : length ys ≡ length values / width = length_read number width ys values read_y in
      let new_many : length new / width ≡ length points / width = ap (λ n. n / width) same_new in
      let values_many : length values / width ≡ length points / width = ap (λ n. n / width) same_y in
      let one_len : length ys ≡ length xs = as_many ∙ values_many ∙ sym many in
      let items = items_of a new in
      let short : IsBelow K (length new / width) a = subst (λ n. IsBelow K n a) (many ∙ sym new_many) below in
      let denoted = items_denote a new short in
      let told = items_written a new written in
      let through : map (value_at L (itself L) (numbers width new)) (numbers width points) ≡ numbers width values =
      sym (values_at_carried S (numbers width new) (numbers width points) items xs ys a told read_x denoted one_len has) ∙ read_y in (
        (length-numbers width new ∙ new_many, written_below S width a new written, through),
        (λ others h.
            let back = numbers_back S others h.1 in
            let elements = elements_of S others in
            let count : length elements ≡ length xs = sym (length-map elements number) ∙ ap length back ∙ h.0 ∙ sym many in
            let values_there = values_back S others elements xs ys back one_len
            (ap (map (value_at L (itself L) others)) read_x ∙ h.2 ∙ sym read_y) in
            let found = only (of_list K elements) (subst (λ n. IsBelow K n (of_list K elements)) count (of_list-below K elements)) values_there in
            let lengths : length elements ≡ length items = count ∙ many ∙ sym new_many ∙ sym (length-tabulate (length new / width) a) in
            sym back ∙ ap (map number) (same_list S elements items lengths (found ∙ denoted)) ∙ told),
      )
