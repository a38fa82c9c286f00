-- The parts of a domain over a field, and what is made of blocks of columns and rows, by the numbers of elements.
use Rattle.std.proofs.Common.{◌≡◌, ℕ, zero, suc, ◌+◌, ◌*◌, ◌/◌, ◌%◌, ◌^◌, ◌<◌, ◌≤◌, Option, Some, None, IfSome, List, [], ◌∷◌, map, refl, sym, ap, subst, ◌∙◌, mod-eq_of_lt, arith}
use Rattle.std.proofs.Math.Pow.{pow-lt}
use Rattle.std.proofs.lemmas.Nat.{div-add-mod'}
use Rattle.ark_math.specs.Field.{FieldOn, power}
use Rattle.ark_math.specs.Module.{ModuleOn, IsItself, itself, item}
use Rattle.ark_math.specs.Root.{Splits, IsSupported}
use Rattle.ark_math.specs.Domain.{Domain, radix2, domain_of, element}
use Rattle.ark_math.specs.Transform.{transform, IsInverse}
use Rattle.ark_math.proofs.Algebra.NonZero.{power_not_zero}
use Rattle.ark_math.proofs.Domains.Sizes.{radix2_splits}
use Rattle.ark_math.proofs.Lists.Tabulated.{tabulate-same}
use Rattle.ark_math_transforms.proofs.Transforms.Carried.{map-tabulate, power-carried}
use Rattle.ark_numbers.specs.Fields.{operations}
use Rattle.ark_numbers.specs.Answers.{coset_of, AreValues, AreInterpolated}
use Rattle.ark_numbers.proofs.Values.{NumberField, shown_field, field_laws, number_carries, domain_carried, IsOurs}
use Rattle.ark_fft_parts.specs.Parts.{column, row, of_columns, of_row}
use Rattle.ark_fft_parts.proofs.Domains.{part_root, element_not_zero}
use Rattle.ark_words.specs.Parts.{of_column, of_row as row_of}
use Rattle.ark_words.proofs.Multiples.{scaled, scaled_linear, values_scaled, interpolated_scaled}

-- a multiple of k as so many times k
pub in_multiples : (n k : ℕ) → n % k ≡ 0 → n ≡ k * (n / k)
in_multiples n k none =
    let parts : n ≡ n / k * k + n % k = sym (div-add-mod' n k) in
    let turned : n / k * k ≡ k * (n / k) = omega arith in
    omega arith

-- what is true of a part is true of the same part of what was found
pub some_part : {T W : Type 0} (found : Option T) (part : T → W) (w : W) (P : W → Type 0) → IfSome found (λ t. part t ≡ w) → P w → IfSome found (λ t. P (part t))
some_part None part w P told here = told
some_part (Some t) part w P told here = subst P (sym told) here

-- ---- items, columns and rows of lists through a map that keeps zero

module _ {F G M X : Type 0} (V : ModuleOn F M) (W : ModuleOn G X) (h : M → X) (zero_kept : h V.zero ≡ W.zero) where
  pub item-mapped : (c : List M) (i : ℕ) → h (item V c i) ≡ item W (map h c) i
  item-mapped [] i = zero_kept
  item-mapped (x ∷ c) zero = refl
  item-mapped (x ∷ c) (suc i) = item-mapped c i

  pub column-mapped : (r c : ℕ) (xs : List M) (j : ℕ) → map h (column V r c xs j) ≡ column W r c (map h xs) j
  column-mapped r c xs j = map-tabulate h r (λ i. item V xs (i * c + j)) ∙ tabulate-same r _ _ (λ i l. item-mapped xs (i * c + j))

  pub row-mapped : (c : ℕ) (xs : List M) (i : ℕ) → map h (row V c xs i) ≡ row W c (map h xs) i
  row-mapped c xs i = map-tabulate h c (λ j. item V xs (i * c + j)) ∙ tabulate-same c _ _ (λ j l. item-mapped xs (i * c + j))

-- ---- the domains of a domain's parts, of 2 ^ a rows and 2 ^ b columns, by the number of the offset

module _ {F : Type 0} (S : NumberField F) (a b h n : ℕ) (w o : F) (few : a + b < 64) (within : a + b ≤ S.adicity.two) (size : n ≡ 2 ^ a * 2 ^ b)
    (lawful : IsOurs S (domain_of radix2 n w o)) (offset : S.numbering.number o ≡ h) where
  abbrev K : FieldOn F
  K = S.field

  abbrev L : FieldOn ℕ
  L = operations (shown_field S)

  abbrev d : Domain F
  d = domain_of radix2 n w o

  part_splits : (e : ℕ) → e ≤ a + b → Splits S.adicity (2 ^ e) e 0
  part_splits e l =
      let less : e < 64 = omega arith in
      let fits : 2 ^ e < 2 ^ 64 = pow-lt less in
      radix2_splits S.adicity (2 ^ e) e refl (omega arith) fits

  supported : IsSupported S.adicity n
  supported = (lawful.size_of.0, 0, lawful.size_of.1)

  as_offset : (x : F) (k : ℕ) → S.numbering.number x ≡ k → S.numbering.number x ≡ k % S.modulus
  as_offset x k e = subst (λ t. S.numbering.number x ≡ t % S.modulus) e (sym (mod-eq_of_lt (S.numbering.below x)))

  pub columns_ours : IsOurs S (of_columns K d (2 ^ a) (2 ^ b))
  columns_ours =
      let turned : 2 ^ a * 2 ^ b ≡ 2 ^ b * 2 ^ a = omega arith in
      record {
        size_of = (a, part_splits a (omega arith));
        root_of = sym (part_root K (field_laws S) S.adicity S.root S.roots n (2 ^ b) (2 ^ a) w (S.root (2 ^ a)) (size ∙ turned) supported (a, 0, part_splits a (omega arith)) lawful.root_of refl);
        offset_not_zero = power_not_zero K (field_laws S) o (2 ^ b) lawful.offset_not_zero;
      }

  pub row_ours : (i : ℕ) → IsOurs S (of_row K d (2 ^ a) (2 ^ b) i)
  row_ours i = record {
    size_of = (b, part_splits b (omega arith));
    root_of = sym (part_root K (field_laws S) S.adicity S.root S.roots n (2 ^ a) (2 ^ b) w (S.root (2 ^ b)) size supported (b, 0, part_splits b (omega arith)) lawful.root_of refl);
    offset_not_zero = element_not_zero K (field_laws S) S.adicity S.root S.roots n w o i supported lawful.root_of lawful.offset_not_zero;
  }

  pub columns_offset : S.numbering.number (power K o (2 ^ b)) ≡ power L h (2 ^ b) % S.modulus
  columns_offset = as_offset _ _ (power-carried (number_carries S) o (2 ^ b) ∙ ap (λ x. power L x (2 ^ b)) offset)

  pub row_offset : (i : ℕ) → S.numbering.number (element K d i) ≡ element L (coset_of (shown_field S) (2 ^ a * 2 ^ b) h) i % S.modulus
  row_offset i =
      let C = number_carries S in
      as_offset _ _
      (C.times_kept o (power K w i) ∙ ap (L.times (S.numbering.number o)) (power-carried C w i)
      ∙ ap (λ e. element L e i) (domain_carried S d h lawful (as_offset o h offset))
      ∙ ap (λ m. element L (coset_of (shown_field S) m h) i) size)

  -- ---- what is made of a block, whose elements' multiples by u have the numbers xs

  module _ (u : F) {M : Type 0} (V : ModuleOn F M) (meaning : F → M) (own : IsItself K V meaning) (k : ℕ) (block made : List F) (xs : List ℕ) (same : map (scaled S u) block ≡ xs) where
    abbrev W : ModuleOn ℕ ℕ
    W = itself L

    scaled_column : (items : List F) (j : ℕ) → map (scaled S u) (column (itself K) (2 ^ a) k items j) ≡ column W (2 ^ a) k (map (scaled S u) items) j
    scaled_column items j = column-mapped (itself K) W (scaled S u) (scaled_linear S u).zero_kept (2 ^ a) k items j

    meant_column : (items : List F) (j : ℕ) → map meaning (column (itself K) (2 ^ a) k items j) ≡ column V (2 ^ a) k (map meaning items) j
    meant_column items j = column-mapped (itself K) V meaning own.zero_kept (2 ^ a) k items j

    scaled_row : (items : List F) (i : ℕ) → map (scaled S u) (row (itself K) (2 ^ b) items i) ≡ row W (2 ^ b) (map (scaled S u) items) i
    scaled_row items i = row-mapped (itself K) W (scaled S u) (scaled_linear S u).zero_kept (2 ^ b) items i

    meant_row : (items : List F) (i : ℕ) → map meaning (row (itself K) (2 ^ b) items i) ≡ row V (2 ^ b) (map meaning items) i
    meant_row items i = row-mapped (itself K) V meaning own.zero_kept (2 ^ b) items i

    pub column_told : (j : ℕ) → column V (2 ^ a) k (map meaning made) j ≡ transform K V (of_columns K d (2 ^ a) (2 ^ b)) (column V (2 ^ a) k (map meaning block) j)
        → AreValues (shown_field S) (of_column (shown_field S) a b h) (column W (2 ^ a) k xs j) (column W (2 ^ a) k (map (scaled S u) made) j)
    column_told j e =
        subst (AreValues (shown_field S) (of_column (shown_field S) a b h) (column W (2 ^ a) k xs j)) (scaled_column made j)
        (values_scaled S u V meaning own (of_columns K d (2 ^ a) (2 ^ b)) (power L h (2 ^ b)) (column W (2 ^ a) k xs j) (column (itself K) (2 ^ a) k block j) (column (itself K) (2 ^ a) k made j)
        columns_ours columns_offset (scaled_column block j ∙ ap (λ ys. column W (2 ^ a) k ys j) same)
        (meant_column made j ∙ e ∙ ap (transform K V (of_columns K d (2 ^ a) (2 ^ b))) (sym (meant_column block j))))

    pub column_back : (j : ℕ) → IsInverse K V (of_columns K d (2 ^ a) (2 ^ b)) (column V (2 ^ a) k (map meaning block) j) (column V (2 ^ a) k (map meaning made) j)
        → AreInterpolated (shown_field S) (of_column (shown_field S) a b h) (column W (2 ^ a) k xs j) (column W (2 ^ a) k (map (scaled S u) made) j)
    column_back j e =
        subst (AreInterpolated (shown_field S) (of_column (shown_field S) a b h) (column W (2 ^ a) k xs j)) (scaled_column made j)
        (interpolated_scaled S u V meaning own (of_columns K d (2 ^ a) (2 ^ b)) (power L h (2 ^ b)) (column W (2 ^ a) k xs j) (column (itself K) (2 ^ a) k block j) (column (itself K) (2 ^ a) k made j)
        columns_ours columns_offset (scaled_column block j ∙ ap (λ ys. column W (2 ^ a) k ys j) same)
        (subst (IsInverse K V (of_columns K d (2 ^ a) (2 ^ b)) (map meaning (column (itself K) (2 ^ a) k block j))) (sym (meant_column made j))
        (subst (λ v. IsInverse K V (of_columns K d (2 ^ a) (2 ^ b)) v (column V (2 ^ a) k (map meaning made) j)) (sym (meant_column block j)) e)))

    pub row_told : (i t : ℕ) → row V (2 ^ b) (map meaning made) t ≡ transform K V (of_row K d (2 ^ a) (2 ^ b) i) (row V (2 ^ b) (map meaning block) t)
        → AreValues (shown_field S) (row_of (shown_field S) a b h i) (row W (2 ^ b) xs t) (row W (2 ^ b) (map (scaled S u) made) t)
    row_told i t e =
        subst (AreValues (shown_field S) (row_of (shown_field S) a b h i) (row W (2 ^ b) xs t)) (scaled_row made t)
        (values_scaled S u V meaning own (of_row K d (2 ^ a) (2 ^ b) i) (element L (coset_of (shown_field S) (2 ^ a * 2 ^ b) h) i) (row W (2 ^ b) xs t) (row (itself K) (2 ^ b) block t) (row (itself K) (2 ^ b) made t)
        (row_ours i) (row_offset i) (scaled_row block t ∙ ap (λ ys. row W (2 ^ b) ys t) same)
        (meant_row made t ∙ e ∙ ap (transform K V (of_row K d (2 ^ a) (2 ^ b) i)) (sym (meant_row block t))))

    pub row_back : (i t : ℕ) → IsInverse K V (of_row K d (2 ^ a) (2 ^ b) i) (row V (2 ^ b) (map meaning block) t) (row V (2 ^ b) (map meaning made) t)
        → AreInterpolated (shown_field S) (row_of (shown_field S) a b h i) (row W (2 ^ b) xs t) (row W (2 ^ b) (map (scaled S u) made) t)
    row_back i t e =
        subst (AreInterpolated (shown_field S) (row_of (shown_field S) a b h i) (row W (2 ^ b) xs t)) (scaled_row made t)
        (interpolated_scaled S u V meaning own (of_row K d (2 ^ a) (2 ^ b) i) (element L (coset_of (shown_field S) (2 ^ a * 2 ^ b) h) i) (row W (2 ^ b) xs t) (row (itself K) (2 ^ b) block t) (row (itself K) (2 ^ b) made t)
        (row_ours i) (row_offset i) (scaled_row block t ∙ ap (λ ys. row W (2 ^ b) ys t) same)
        (subst (IsInverse K V (of_row K d (2 ^ a) (2 ^ b) i) (map meaning (row (itself K) (2 ^ b) block t))) (sym (meant_row made t))
        (subst (λ v. IsInverse K V (of_row K d (2 ^ a) (2 ^ b) i) v (row V (2 ^ b) (map meaning made) t)) (sym (meant_row block t)) e)))
