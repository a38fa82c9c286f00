-- The law of the parts, in numbers: columns and then rows are the transform, and rows and then columns its inverse.
use Rattle.std.proofs.Common.{◌≡◌, ◌≢◌, ℕ, ◌+◌, ◌*◌, ◌/◌, ◌%◌, ◌^◌, ◌<◌, ◌≤◌, List, All, length, map, refl, sym, ap, ap₂, subst, ◌∙◌, mod-eq_of_lt, le_of_lt, pow-add, arith}
use Rattle.std.proofs.Math.Pow.{pow-lt}
use Rattle.std.proofs.Math.Nat.{mod-lt, div-lt_iff_lt-mul}
use Rattle.std.proofs.lemmas.List.{length-map, ext_get_or, get_or-map}
use Rattle.std.proofs.lemmas.Nat.{div-add-mod'}
use Rattle.ark_math.specs.Field.{FieldOn, power}
use Rattle.ark_math.specs.Module.{ModuleOn, itself, item}
use Rattle.ark_math.specs.Domain.{Domain, radix2, domain_of}
use Rattle.ark_math.specs.Transform.{transform, IsInverse}
use Rattle.ark_math.proofs.Algebra.Groups.{itself_is_module}
use Rattle.ark_math.proofs.Domains.Sizes.{radix2_splits}
use Rattle.ark_math.proofs.Lists.Tabulated.{item-tabulate, tabulate-same}
use Rattle.ark_math_transforms.proofs.Transforms.Carried.{carried, map-tabulate, transform-carried, IsInverse-carried}
use Rattle.ark_base.specs.ResiduesLaws.{number_of_residue}
use Rattle.ark_numbers.specs.Fields.{operations, reduced}
use Rattle.ark_numbers.specs.Answers.{coset_of, AreInterpolated}
use Rattle.ark_numbers.proofs.Values.{NumberField, shown_field, field_laws, number_carries, residue_carries, residue, elements_of, values_of_elements, domain_carried, not_zero_back, IsOurs}
use Rattle.ark_fft_parts.specs.Parts.{column, across, down, of_columns, of_row}
use Rattle.ark_fft_parts.proofs.Making.{parts_make_the_transform}
use Rattle.ark_fft_parts.proofs.Unmaking.{parts_make_the_inverse}
use Rattle.ark_words.specs.Parts.{of_column, AreColumns, AreRows, AreRowsBack, AreColumnsBack, AreOrdered, of_row as row_of}
use Rattle.ark_words.proofs.Interpolated.{numbers_back}
use Rattle.ark_words.proofs.PartsInNumbers.{item-mapped, column-mapped, columns_ours, row_ours, columns_offset, row_offset}

module _ {F : Type 0} (S : NumberField F) (a b h : ℕ) (few : a + b < 64) (within : a + b ≤ S.adicity.two) (below : h < S.modulus) (some : h ≢ 0) where
  abbrev K : FieldOn F
  K = S.field

  abbrev L : FieldOn ℕ
  L = operations (shown_field S)

  abbrev V : ModuleOn F F
  V = itself K

  abbrev W : ModuleOn ℕ ℕ
  W = itself L

  abbrev n : ℕ
  n = 2 ^ a * 2 ^ b

  -- the domain over the field
  abbrev d : Domain F
  d = domain_of radix2 n (S.root n) (residue S h)

  abbrev number : F → ℕ
  number = S.numbering.number

  offset : number (residue S h) ≡ h
  offset = number_of_residue S.numbering S.prime h ∙ mod-eq_of_lt below

  ours : IsOurs S d
  ours =
      let fits : 2 ^ (a + b) < 2 ^ 64 = pow-lt few in
      let size : n ≡ 2 ^ (a + b) = sym (pow-add 2 a b) in
      record {
        size_of = (a + b, radix2_splits S.adicity n (a + b) size within (subst (λ m. m < 2 ^ 64) (sym size) fits));
        root_of = refl;
        offset_not_zero = not_zero_back S (residue S h) h offset some;
      }

  whole_carried : carried number d ≡ coset_of (shown_field S) n h
  whole_carried = domain_carried S d h ours (number_of_residue S.numbering S.prime h)

  column_carried : carried number (of_columns K d (2 ^ a) (2 ^ b)) ≡ of_column (shown_field S) a b h
  column_carried =
      domain_carried S (of_columns K d (2 ^ a) (2 ^ b)) (power L h (2 ^ b))
      (columns_ours S a b h n (S.root n) (residue S h) few within refl ours offset) (columns_offset S a b h n (S.root n) (residue S h) few within refl ours offset)

  row_carried : (i : ℕ) → carried number (of_row K d (2 ^ a) (2 ^ b) i) ≡ row_of (shown_field S) a b h i
  row_carried i =
      domain_carried S (of_row K d (2 ^ a) (2 ^ b) i) _
      (row_ours S a b h n (S.root n) (residue S h) few within refl ours offset i) (row_offset S a b h n (S.root n) (residue S h) few within refl ours offset i)

  one : power K d.root d.size ≡ K.one
  one = (S.roots.order n (ours.size_of.0, 0, ours.size_of.1)).one

  -- ---- columns, and then rows

  module _ (xs : List ℕ) (columns rows : ℕ → List ℕ) (all : All (λ x. x < S.modulus) xs)
      (of_columns_made : AreColumns (shown_field S) a b h xs columns) (of_rows_made : AreRows (shown_field S) a b h columns rows) where
    items : List F
    items = elements_of S xs

    items_are : map number items ≡ xs
    unfolding items
    items_are = numbers_back S xs all

    element_column : ℕ → List F
    element_column j = transform K V (of_columns K d (2 ^ a) (2 ^ b)) (column V (2 ^ a) (2 ^ b) items j)

    element_row : ℕ → List F
    element_row i = transform K V (of_row K d (2 ^ a) (2 ^ b) i) (across V (2 ^ b) element_column i)

    column_is : (j : ℕ) → j < 2 ^ b → map number (element_column j) ≡ columns j
    unfolding element_column
    column_is j l =
        transform-carried (number_carries S) (of_columns K d (2 ^ a) (2 ^ b)) (column V (2 ^ a) (2 ^ b) items j)
        ∙ ap₂ (transform L W) column_carried (column-mapped V W number (number_carries S).zero_kept (2 ^ a) (2 ^ b) items j ∙ ap (λ ys. column W (2 ^ a) (2 ^ b) ys j) items_are)
        ∙ sym (of_columns_made j l)

    across_is : (i : ℕ) → map number (across V (2 ^ b) element_column i) ≡ across W (2 ^ b) columns i
    across_is i =
        map-tabulate number (2 ^ b) (λ j. item V (element_column j) i)
        ∙ tabulate-same (2 ^ b) _ _ (λ j l. item-mapped V W number (number_carries S).zero_kept (element_column j) i ∙ ap (λ t. item W t i) (column_is j l))

    row_is : (i : ℕ) → i < 2 ^ a → map number (element_row i) ≡ rows i
    unfolding element_row
    row_is i l =
        transform-carried (number_carries S) (of_row K d (2 ^ a) (2 ^ b) i) (across V (2 ^ b) element_column i)
        ∙ ap₂ (transform L W) (row_carried i) (across_is i)
        ∙ sym (of_rows_made i l)

    pub made_in_order : AreOrdered (shown_field S) a b (transform L W (coset_of (shown_field S) n h) xs) rows
    unfolding element_column element_row
    made_in_order i j l m =
        ap (λ t. item W t j) (sym (row_is i l))
        ∙ (sym (item-mapped V W number (number_carries S).zero_kept (element_row i) j)
        ∙ (ap number (parts_make_the_transform (field_laws S) (itself_is_module K (field_laws S)) d (2 ^ a) (2 ^ b) items element_column element_row refl one (λ k b. refl) (λ k b. refl) i j l m)
        ∙ (item-mapped V W number (number_carries S).zero_kept (transform K V d items) (i + 2 ^ a * j)
        ∙ ap (λ t. item W t (i + 2 ^ a * j)) (transform-carried (number_carries S) d items ∙ ap₂ (transform L W) whole_carried items_are))))

  -- ---- rows taken back, and then columns

  -- a domain's numbers as elements are the domain
  domain_back : (e : Domain F) → carried (residue S) (carried number e) ≡ e
  domain_back e =
      let there : (x : F) → residue S (number x) ≡ x = λ x. S.numbering.same _ _ (number_of_residue S.numbering S.prime (number x) ∙ mod-eq_of_lt (S.numbering.below x)) in
      ap₂ (λ root offset. domain_of e.kind e.size root offset) (there e.root) (there e.offset)

  inverse_back : (e : Domain F) (f : Domain ℕ) (v u : List ℕ) → carried number e ≡ f → IsInverse L W f v u → IsInverse K V e (map (residue S) v) (map (residue S) u)
  inverse_back e f v u is inverse =
      subst (λ g. IsInverse K V g (map (residue S) v) (map (residue S) u)) (ap (carried (residue S)) (sym is) ∙ domain_back e)
      (IsInverse-carried (residue_carries S) f v u inverse)

  module _ (values xs : List ℕ) (rows before : ℕ → List ℕ) (all : All (λ x. x < S.modulus) values) (len : length xs ≡ n)
      (order : AreOrdered (shown_field S) a b values rows) (of_rows_unmade : AreRowsBack (shown_field S) a b h rows before) (of_columns_unmade : AreColumnsBack (shown_field S) a b h before xs) where
    kept : L.zero ≡ L.zero
    kept = refl

    residue_of_item : (ys : List ℕ) (i : ℕ) → residue S (item W ys i) ≡ item V (map (residue S) ys) i
    residue_of_item ys i = item-mapped W V (residue S) (residue_carries S).zero_kept ys i

    down_is : (j : ℕ) → map (residue S) (down W (2 ^ a) before j) ≡ down V (2 ^ a) (λ i. map (residue S) (before i)) j
    down_is j = map-tabulate (residue S) (2 ^ a) (λ i. item W (before i) j) ∙ tabulate-same (2 ^ a) _ _ (λ i l. residue_of_item (before i) j)

    column_of_elements : (j : ℕ) → map (residue S) (column W (2 ^ a) (2 ^ b) xs j) ≡ column V (2 ^ a) (2 ^ b) (map (residue S) xs) j
    column_of_elements j = column-mapped W V (residue S) (residue_carries S).zero_kept (2 ^ a) (2 ^ b) xs j

    of_elements : IsInverse K V d (map (residue S) values) (map (residue S) xs)
    of_elements =
        parts_make_the_inverse (field_laws S) (itself_is_module K (field_laws S)) d (2 ^ a) (2 ^ b) (map (residue S) values) (map (residue S) xs) (λ i. map (residue S) (rows i)) (λ i. map (residue S) (before i)) refl one
        (λ i j l m. sym (residue_of_item (rows i) j) ∙ ap (residue S) (order i j l m) ∙ residue_of_item values (i + 2 ^ a * j))
        (λ i l. inverse_back (of_row K d (2 ^ a) (2 ^ b) i) _ (rows i) (before i) (row_carried i) (of_rows_unmade i l).0)
        (λ j l.
        subst (λ v. IsInverse K V (of_columns K d (2 ^ a) (2 ^ b)) v (column V (2 ^ a) (2 ^ b) (map (residue S) xs) j)) (down_is j)
        (subst (IsInverse K V (of_columns K d (2 ^ a) (2 ^ b)) (map (residue S) (down W (2 ^ a) before j))) (column_of_elements j)
        (inverse_back (of_columns K d (2 ^ a) (2 ^ b)) _ (down W (2 ^ a) before j) (column W (2 ^ a) (2 ^ b) xs j) column_carried (of_columns_unmade j l).0)))
        (length-map xs (residue S) ∙ len)

    -- each number of the list is one of a column's
    place_reduced : (i j : ℕ) → i < 2 ^ a → j < 2 ^ b → item W xs (i * 2 ^ b + j) % S.modulus ≡ item W xs (i * 2 ^ b + j)
    place_reduced i j l m =
        let is = (of_columns_unmade j m).1 in
        let at_place = item-tabulate W (2 ^ a) (λ k. item W xs (k * 2 ^ b + j)) i l in
        ap (λ t. t % S.modulus) (sym at_place)
        ∙ (item-mapped W W (λ x. x % S.modulus) (mod-eq_of_lt (le_of_lt S.prime.above_one)) (column W (2 ^ a) (2 ^ b) xs j) i
        ∙ (ap (λ t. item W t i) is ∙ at_place))

    reduced_list : reduced (shown_field S) xs ≡ xs
    reduced_list =
        ext_get_or 0 (reduced (shown_field S) xs) xs (length-map xs (λ x. x % S.modulus))
        (λ k l.
        let m = length-map xs (λ x. x % S.modulus) in
        let inside : k < length xs = omega arith in
        let some_columns : 0 < 2 ^ b = grind arith in
        let parts : k ≡ k / 2 ^ b * 2 ^ b + k % 2 ^ b = sym (div-add-mod' k (2 ^ b)) in
        let j : k % 2 ^ b < 2 ^ b = mod-lt k some_columns in
        let i : k / 2 ^ b < 2 ^ a = (div-lt_iff_lt-mul some_columns).1 (omega arith) in
        get_or-map (λ x. x % S.modulus) xs k 0 0 inside
        ∙ subst (λ t. item W xs t % S.modulus ≡ item W xs t) (sym parts) (place_reduced (k / 2 ^ b) (k % 2 ^ b) i j))

    pub unmade_in_order : AreInterpolated (shown_field S) (coset_of (shown_field S) n h) values xs
    unmade_in_order = (
      subst (λ e. IsInverse L W e values xs) whole_carried
          (subst (λ v. IsInverse L W (carried number d) v xs) (numbers_back S values all)
          (subst (IsInverse L W (carried number d) (map number (map (residue S) values))) (values_of_elements S xs ∙ reduced_list)
          (IsInverse-carried (number_carries S) d (map (residue S) values) (map (residue S) xs) of_elements))),
      reduced_list,
    )
