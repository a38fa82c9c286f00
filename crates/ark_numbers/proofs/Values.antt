-- An element's number carries a prime field's operations to those of the numbers below its prime, and so every answer.
use Rattle.std.proofs.Common.{◌≡◌, ◌⊎◌, ◌+◌, ◌*◌, ◌-◌, ◌/◌, ◌%◌, ◌^◌, ◌<◌, ◌≤◌, ◌==◌, ℕ, List, [], ◌∷◌, ◌≢◌, length, get_or, map, inl, inr, refl, sym, ap, ap₂, subst, ◌∙◌, mod-eq_of_lt, mod-lt, le_of_lt, arith}
use Rattle.std.proofs.Math.Nat.{mod-add-mod, add-mod-mod, zero-mod}
use Rattle.std.proofs.lemmas.Nat.{mul-mod}
use Rattle.ark_math.specs.Field.{FieldOn, IsField, power}
use Rattle.ark_math.specs.Module.{ModuleOn, IsModule, IsItself, itself}
use Rattle.ark_math.specs.Prime.{IsPrime}
use Rattle.ark_math.specs.Root.{Adicity, AreRoots}
use Rattle.ark_math.specs.Domain.{Kind, Domain, HasNoSize, IsDomain}
use Rattle.ark_math.specs.Transform.{transform, value_at, IsInverse}
use Rattle.ark_math_points.specs.AtPoints.{HasValues}
use Rattle.ark_math_polynomials.proofs.Polynomials.UnivariateValues.{value_of_list}
use Rattle.ark_math_variables.specs.Multilinear.{extension}
use Rattle.ark_math.specs.Univariate.{of_list, product, nothing, IsTrimmed, IsQuotient}
use Rattle.ark_math.proofs.Algebra.Groups.{itself_is_module}
use Rattle.ark_math_polynomials.proofs.Polynomials.Trimmed.{trim-same, trim-trimmed}
use Rattle.ark_math_polynomials.proofs.Polynomials.UnivariateLists.{same_trimmed, trimmed_nothing}
use Rattle.ark_math_transforms.proofs.Transforms.Carried.{Carries, carried, power-carried, value_at-carried, transform-carried, IsInverse-carried, of_list-carried, product-carried, IsQuotient-carried}
use Rattle.ark_numbers.proofs.CarriedExtensions.{extension-carried}
use Rattle.ark_math_domains.proofs.Callers.Transforms.{transform-meanings, inverse-meanings, transform-length}
use Rattle.ark_math_transforms.proofs.Domains.GeneralSizes.{general_fits}
use mathlib.Core.Path.{fun_ext}
use Rattle.std.proofs.lemmas.Bool.Decides.{Decides-eqb}
use Rattle.std.proofs.lemmas.List.{length-map, ext_get_or, get_or-map}
use Rattle.ark_base.specs.Residues.{Numbering, residue_of, residues}
use Rattle.ark_base.specs.ResiduesLaws.{residues_laws, number_of_residue, number_of_zero, number_of_one}
use Rattle.ark_numbers.specs.Fields.{Known, known_by, modulo, operations, reduced}
use Rattle.ark_numbers.specs.Answers.{coefficients, domain_of, coset_of, IsChosen, IsDomainFor, HasNoDomain, AreValues, AreInterpolated, AreProduct, HasNoProduct, AreQuotient, HasNoQuotient}

-- a field whose elements are the numbers below a prime, with its roots of unity
pub record NumberField (F : Type 0) : Type 0 where
  pub modulus : ℕ
  pub adicity : Adicity
  pub generator : ℕ
  pub prime : IsPrime modulus
  pub numbering : Numbering F modulus
  pub field : FieldOn F
  pub root : ℕ → F
  pub first : F
  pub field_is : field ≡ residues numbering prime
  pub first_is : numbering.number first ≡ generator
  pub root_is : (n : ℕ) → root n ≡ power field first ((modulus - 1) / n)
  pub roots : AreRoots field adicity root

-- by what a field's laws say
abbrev pub number_field : {F : Type 0} {p generator : ℕ} {s : Adicity} {K : FieldOn F} {root : ℕ → F} {first : F} (N : Numbering F p) (P : IsPrime p)
    → K ≡ residues N P → N.number first ≡ generator → ((n : ℕ) → root n ≡ power K first ((p - 1) / n)) → AreRoots K s root → NumberField F
number_field {p = p} {generator = generator} {s = s} {K = K} {root = root} {first = first} N P field_is first_is root_is roots = record {
  modulus = p;
  adicity = s;
  generator = generator;
  prime = P;
  numbering = N;
  field = K;
  root = root;
  first = first;
  field_is = field_is;
  first_is = first_is;
  root_is = root_is;
  roots = roots;
}

abbrev pub shown_field : {F : Type 0} → NumberField F → Known
shown_field S = known_by S.modulus S.adicity S.generator

-- ---- numbers carry the operations, and residues carry them back

module _ {F : Type 0} {p : ℕ} (N : Numbering F p) (P : IsPrime p) where
  mod_twice : (v : ℕ) → v % p % p ≡ v % p
  mod_twice v = mod-eq_of_lt (mod-lt v (le_of_lt P.above_one))

  numbers_carry : Carries (residues N P) (modulo p) N.number
  numbers_carry = record {
    zero_kept = number_of_zero N P;
    one_kept = number_of_one N P;
    plus_kept = λ x y. number_of_residue N P (N.number x + N.number y);
    times_kept = λ x y. number_of_residue N P (N.number x * N.number y);
  }

  residues_carry : Carries (modulo p) (residues N P) (residue_of N P)
  residues_carry = record {
    zero_kept = N.same _ _ (number_of_residue N P 0 ∙ zero-mod p ∙ sym (number_of_zero N P));
    one_kept = N.same _ _ (number_of_residue N P 1 ∙ mod-eq_of_lt P.above_one ∙ sym (number_of_one N P));
    plus_kept = λ x y. N.same _ _ (number_of_residue N P ((x + y) % p) ∙ mod_twice (x + y)
        ∙ sym (number_of_residue N P (N.number (residue_of N P x) + N.number (residue_of N P y))
        ∙ ap₂ (λ a b. (a + b) % p) (number_of_residue N P x) (number_of_residue N P y) ∙ mod-add-mod x p (y % p) ∙ add-mod-mod x y p));
    times_kept = λ x y. N.same _ _ (number_of_residue N P ((x * y) % p) ∙ mod_twice (x * y) ∙ mul-mod x y p
        ∙ sym (number_of_residue N P (N.number (residue_of N P x) * N.number (residue_of N P y))
        ∙ ap₂ (λ a b. (a * b) % p) (number_of_residue N P x) (number_of_residue N P y)));
  }

-- no domain is longer than a word tells
pub too_long : (s : Adicity) (k : ℕ) → 2 ^ 64 ≤ k → HasNoSize (IsChosen s) k
too_long s k long kind n chosen = let fits = general_fits s k kind n chosen in omega arith

-- the kind of a domain says nothing of its transform
pub of_any_kind : (f : Known) (kind : Kind) (n h : ℕ) (xs ys : List ℕ) → AreInterpolated f (domain_of f kind n h) xs ys → AreInterpolated f (coset_of f n h) xs ys
of_any_kind f kind n h xs ys inverse = (record { size = inverse.0.size; values = inverse.0.values }, inverse.1)

module _ {F : Type 0} (S : NumberField F) where
  abbrev K : FieldOn F
  K = S.field

  abbrev number : F → ℕ
  number = S.numbering.number

  abbrev pub residue : ℕ → F
  residue = residue_of S.numbering S.prime

  abbrev pub IsOurs : Domain F → Type 0
  IsOurs d = IsDomain S.field S.adicity S.root d

  pub field_laws : IsField S.field
  field_laws = subst IsField (sym S.field_is) (residues_laws S.numbering S.prime)

  pub module_laws : IsModule S.field (itself S.field)
  module_laws = itself_is_module S.field field_laws

  pub number_carries : Carries S.field (operations (shown_field S)) S.numbering.number
  number_carries = subst (λ k. Carries k (modulo S.modulus) S.numbering.number) (sym S.field_is) (numbers_carry S.numbering S.prime)

  pub residue_carries : Carries (operations (shown_field S)) S.field (residue_of S.numbering S.prime)
  residue_carries = subst (λ k. Carries (modulo S.modulus) k (residue_of S.numbering S.prime)) (sym S.field_is) (residues_carry S.numbering S.prime)

  pub negated_kept : (x : F) → number (K.negated x) ≡ (S.modulus - number x) % S.modulus
  negated_kept x =
      subst (λ k. number (k.negated x) ≡ (S.modulus - number x) % S.modulus) (sym S.field_is) (number_of_residue S.numbering S.prime (S.modulus - number x))

  -- an element whose number is zero
  pub is_zero : (x : F) → number x ≡ 0 → x ≡ K.zero
  is_zero x e = S.numbering.same x K.zero (e ∙ sym number_carries.zero_kept)

  pub domain_carried : (d : Domain F) (h : ℕ) → IsOurs d → number d.offset ≡ h % S.modulus → carried number d ≡ domain_of (shown_field S) d.kind d.size h
  domain_carried d h lawful e =
      let L = operations (shown_field S) in
      let k = (S.modulus - 1) / d.size in
      ap₂ (λ root offset. record { kind = d.kind; size = d.size; root = root; offset = offset })
      (ap number (lawful.root_of ∙ S.root_is d.size) ∙ power-carried number_carries S.first k ∙ ap (λ x. power L x k) S.first_is)
      e

  -- the numbers of elements are zero for zero alone
  pub not_zero : (x : F) (n : ℕ) → number x ≡ n → x ≢ K.zero → n ≢ 0
  not_zero x n e some z = some (is_zero x (e ∙ z))

  pub not_zero_back : (x : F) (n : ℕ) → number x ≡ n → n ≢ 0 → x ≢ K.zero
  not_zero_back x n e some z = some (sym e ∙ ap number z ∙ number_carries.zero_kept)

  pub is_domain_for : (d : Domain F) (k h : ℕ) → IsChosen S.adicity k d.kind d.size → IsOurs d → number d.offset ≡ h % S.modulus
      → IsDomainFor (shown_field S) k h (domain_of (shown_field S) d.kind d.size h)
  is_domain_for d k h chosen lawful e = (d.kind, d.size, chosen, not_zero d.offset (h % S.modulus) e lawful.offset_not_zero, refl)

  pub has_no_domain : (k h : ℕ) (offset : F) → number offset ≡ h % S.modulus → (offset ≡ K.zero) ⊎ HasNoSize (IsChosen S.adicity) k → HasNoDomain (shown_field S) k h
  has_no_domain k h offset e (inl zero) = inr (sym e ∙ ap number zero ∙ number_carries.zero_kept)
  has_no_domain k h offset e (inr none) = inl none

  -- values are below the prime
  pub reduced_values : (u : List F) → reduced (shown_field S) (map number u) ≡ map number u
  reduced_values [] = refl
  reduced_values (x ∷ xs) = ap₂ (λ y ys. y ∷ ys) (mod-eq_of_lt (S.numbering.below x)) (reduced_values xs)

  -- a transform, told by the elements' meanings, is one of the numbers
  pub values_carried : {M : Type 0} (V : ModuleOn F M) (meaning : F → M) → IsItself K V meaning
      → (d : Domain F) (h : ℕ) (xs : List ℕ) (items after : List F) → IsOurs d → number d.offset ≡ h % S.modulus → map number items ≡ xs
      → map meaning after ≡ transform K V d (map meaning items) → AreValues (shown_field S) (domain_of (shown_field S) d.kind d.size h) xs (map number after)
  values_carried V meaning own d h xs items after lawful offset same e =
      ap (map number) (transform-meanings K V own d items after e) ∙ transform-carried number_carries d items
      ∙ ap₂ (transform (operations (shown_field S)) (itself (operations (shown_field S)))) (domain_carried d h lawful offset) same

  pub interpolated_plain : (d : Domain F) (h : ℕ) (xs : List ℕ) (items after : List F) → IsOurs d → number d.offset ≡ h % S.modulus → map number items ≡ xs
      → IsInverse K (itself K) d items after → AreInterpolated (shown_field S) (domain_of (shown_field S) d.kind d.size h) xs (map number after)
  interpolated_plain d h xs items after lawful offset same inverse =
      let L = operations (shown_field S) in (
        subst (λ e. IsInverse L (itself L) e xs (map number after)) (domain_carried d h lawful offset)
            (subst (λ v. IsInverse L (itself L) (carried number d) v (map number after)) same (IsInverse-carried number_carries d items after inverse)),
        reduced_values after,
      )

  pub interpolated_carried : {M : Type 0} (V : ModuleOn F M) (meaning : F → M) → IsItself K V meaning
      → (d : Domain F) (h : ℕ) (xs : List ℕ) (items after : List F) → IsOurs d → number d.offset ≡ h % S.modulus → map number items ≡ xs
      → IsInverse K V d (map meaning items) (map meaning after) → AreInterpolated (shown_field S) (domain_of (shown_field S) d.kind d.size h) xs (map number after)
  interpolated_carried V meaning own d h xs items after lawful offset same inverse =
      interpolated_plain d h xs items after lawful offset same (inverse-meanings K V own d items after inverse)

  -- a domain's transform has as many elements as the domain
  pub length_carried : {M : Type 0} (V : ModuleOn F M) (meaning : F → M) (d : Domain F) (items after : List F)
      → map meaning after ≡ transform K V d (map meaning items) → length after ≡ d.size
  length_carried V meaning d items after e =
      sym (length-map after meaning) ∙ ap length e ∙ transform-length K V d (map meaning items)

  pub length_interpolated : {M : Type 0} (V : ModuleOn F M) (meaning : F → M) (d : Domain F) (items after : List F)
      → IsInverse K V d (map meaning items) (map meaning after) → length after ≡ d.size
  length_interpolated V meaning d items after inverse = sym (length-map after meaning) ∙ inverse.size

  abbrev pub elements_of : List ℕ → List F
  elements_of xs = map residue xs

  pub values_of_elements : (xs : List ℕ) → map number (elements_of xs) ≡ reduced (shown_field S) xs
  values_of_elements [] = refl
  values_of_elements (x ∷ xs) = ap₂ (λ y ys. y ∷ ys) (number_of_residue S.numbering S.prime x) (values_of_elements xs)

  -- a value at a point is one of the numbers
  pub value_carried : (xs : List ℕ) (x : ℕ) (items : List F) (at_x y : F) → map number items ≡ xs → number at_x ≡ x → y ≡ value_at K (itself K) items at_x
      → number y ≡ value_at (operations (shown_field S)) (itself (operations (shown_field S))) xs x
  value_carried xs x items at_x y same e f =
      let L = operations (shown_field S) in
      ap number f ∙ value_at-carried number_carries items at_x ∙ ap₂ (value_at L (itself L)) same e

  -- values at points, one for each
  pub values_at_carried : (xs zs : List ℕ) (items points found : List F) (a : ℕ → F) → map number items ≡ xs → map number points ≡ zs → a ≡ of_list K items → length found ≡ length points
      → HasValues K (length points) (of_list K points) (of_list K found) a
      → map number found ≡ map (value_at (operations (shown_field S)) (itself (operations (shown_field S))) xs) zs
  values_at_carried xs zs items points found a same points_same e len values =
      let L = operations (shown_field S) in
      let at_point = value_at L (itself L) xs in
      subst (λ z. map number found ≡ map at_point z) points_same
      (ext_get_or 0 (map number found) (map at_point (map number points))
      (length-map found number ∙ len ∙ sym (length-map points number) ∙ sym (length-map (map number points) at_point))
      (λ i l.
      let n = length-map found number in
      let m = length-map points number in
      let within : i < length found = omega arith in
      let here : i < length points = omega arith in
      get_or-map number found i K.zero 0 within
      ∙ value_carried xs (number (get_or points i K.zero)) items (get_or points i K.zero) (get_or found i K.zero) same refl
      (value_of_list K field_laws a items (get_or points i K.zero) (get_or found i K.zero) e (values i here))
      ∙ sym (get_or-map at_point (map number points) i 0 0 (omega arith) ∙ ap at_point (get_or-map number points i K.zero 0 here))))

  pub extension_carried : (xs x : List ℕ) (items point : List F) (y : F) → map number items ≡ xs → map number point ≡ x → y ≡ extension K (of_list K items) point
      → number y ≡ extension (operations (shown_field S)) (of_list (operations (shown_field S)) xs) x
  extension_carried xs x items point y same e f =
      let L = operations (shown_field S) in
      ap number f ∙ extension-carried number_carries negated_kept (of_list K items) point
      ∙ ap₂ (extension L) (fun_ext (of_list-carried number_carries items) ∙ ap (of_list L) same) e

  -- as many elements as numbers
  pub as_many : (xs : List ℕ) (items : List F) → map number items ≡ reduced (shown_field S) xs → length items ≡ length xs
  as_many xs items e = sym (length-map items number) ∙ ap length e ∙ length-map xs (λ v. v % S.modulus)

  pub same_numbers : (c d : List F) → of_list K c ≡ of_list K d → of_list (operations (shown_field S)) (map number c) ≡ of_list (operations (shown_field S)) (map number d)
  same_numbers c d e = fun_ext (λ i. sym (of_list-carried number_carries c i) ∙ ap (λ a. number (a i)) e ∙ of_list-carried number_carries d i)

  pub trimmed_numbers : (c : List F) → IsTrimmed K c → IsTrimmed (operations (shown_field S)) (map number c)
  trimmed_numbers c trimmed some zero =
      let e : length (map number c) ≡ length c = length-map c number in
      trimmed (subst (λ n. 0 < n) e some)
      (is_zero _ (of_list-carried number_carries c (length c - 1) ∙ ap (λ n. of_list (operations (shown_field S)) (map number c) (n - 1)) (sym e) ∙ zero))

  -- a polynomial of a list's elements has the list's coefficients
  pub coefficients_of : (xs : List ℕ) (items c : List F) → map number items ≡ reduced (shown_field S) xs → of_list K c ≡ of_list K items → IsTrimmed K c
      → map number c ≡ coefficients (shown_field S) xs
  coefficients_of xs items c same e trimmed =
      let L = operations (shown_field S) in
      same_trimmed L (map number c) (coefficients (shown_field S) xs) (trimmed_numbers c trimmed) (trim-trimmed L (λ x. x == 0) (λ x. Decides-eqb x 0) (reduced (shown_field S) xs))
      (same_numbers c items e ∙ ap (of_list L) same ∙ sym (trim-same L (λ x. x == 0) (λ x. Decides-eqb x 0) (reduced (shown_field S) xs)))

  -- no domain is as long as the product of two lists of these lengths, neither of them empty
  abbrev pub HasNoPlaces : ℕ → ℕ → Type 0
  HasNoPlaces m n = (0 < m) × (0 < n) × HasNoSize (IsChosen S.adicity) (m + n - 1)

  pub numbers_length : (xs : List ℕ) (a : List F) → map number a ≡ coefficients (shown_field S) xs → length a ≡ length (coefficients (shown_field S) xs)
  numbers_length xs a e = sym (length-map a number) ∙ ap length e

  pub no_product : (xs ys : List ℕ) (a b : List F) → map number a ≡ coefficients (shown_field S) xs → map number b ≡ coefficients (shown_field S) ys
      → HasNoPlaces (length a) (length b) → HasNoProduct (shown_field S) (coefficients (shown_field S) xs) (coefficients (shown_field S) ys)
  no_product xs ys a b e f none =
      subst (λ m. HasNoPlaces m (length (coefficients (shown_field S) ys))) (numbers_length xs a e) (subst (HasNoPlaces (length a)) (numbers_length ys b f) none)

  -- what a list of elements denotes, and what their numbers denote
  pub numbers_denote : (xs : List ℕ) (a : List F) → map number a ≡ coefficients (shown_field S) xs → (λ i. number (of_list K a i)) ≡ of_list (operations (shown_field S)) (coefficients (shown_field S) xs)
  numbers_denote xs a e = fun_ext (of_list-carried number_carries a) ∙ ap (of_list (operations (shown_field S))) e

  pub product_carried : (xs ys : List ℕ) (a b c : List F) → map number a ≡ coefficients (shown_field S) xs → map number b ≡ coefficients (shown_field S) ys
      → of_list K c ≡ product K (of_list K a) (of_list K b) → IsTrimmed K c
      → AreProduct (shown_field S) (coefficients (shown_field S) xs) (coefficients (shown_field S) ys) (map number c)
  product_carried xs ys a b c e f whole trimmed =
      let L = operations (shown_field S) in (
        fun_ext (λ k. sym (of_list-carried number_carries c k) ∙ ap (λ h. number (h k)) whole ∙ product-carried number_carries (of_list K a) (of_list K b) k)
            ∙ ap₂ (product L) (numbers_denote xs a e) (numbers_denote ys b f),
        (trimmed_numbers c trimmed, reduced_values c),
      )

  -- there is a domain for the product where there is one for the elements
  pub some_places : (xs ys : List ℕ) (a b : List F) → map number a ≡ coefficients (shown_field S) xs → map number b ≡ coefficients (shown_field S) ys
      → (HasNoPlaces (length a) (length b) → ⊥) → HasNoProduct (shown_field S) (coefficients (shown_field S) xs) (coefficients (shown_field S) ys) → ⊥
  some_places xs ys a b e f some none =
      some (subst (λ m. HasNoPlaces m (length b)) (sym (numbers_length xs a e))
      (subst (HasNoPlaces (length (coefficients (shown_field S) xs))) (sym (numbers_length ys b f)) none))

  pub coefficients_nothing : (xs : List ℕ) (a : List F) → map number a ≡ coefficients (shown_field S) xs → of_list K a ≡ nothing K → coefficients (shown_field S) xs ≡ []
  coefficients_nothing xs a e none =
      let L = operations (shown_field S) in
      trimmed_nothing L (coefficients (shown_field S) xs) (trim-trimmed L (λ x. x == 0) (λ x. Decides-eqb x 0) (reduced (shown_field S) xs))
      (sym (numbers_denote xs a e) ∙ ap (λ h i. number (h i)) none ∙ fun_ext (λ i. number_carries.zero_kept))

  pub numbers_nothing : (q : List F) → IsTrimmed K q → of_list K q ≡ nothing K → map number q ≡ []
  numbers_nothing q trimmed none = ap (map number) (trimmed_nothing K q trimmed none)

  pub no_quotient : (xs ys : List ℕ) (a b : List F) → map number a ≡ coefficients (shown_field S) xs → map number b ≡ coefficients (shown_field S) ys
      → of_list K a ≢ nothing K → of_list K b ≡ nothing K → HasNoQuotient (coefficients (shown_field S) xs) (coefficients (shown_field S) ys)
  no_quotient xs ys a b e f some none = (subst (λ n. 0 < n) (numbers_length xs a e) (some_items a some), coefficients_nothing ys b f none)
    where
      some_items : (a : List F) → of_list K a ≢ nothing K → 0 < length a
      some_items [] some = absurd (some refl)
      some_items (x ∷ a) some = omega arith

  pub quotient_carried : (xs ys : List ℕ) (a b q r : List F) → map number a ≡ coefficients (shown_field S) xs → map number b ≡ coefficients (shown_field S) ys
      → IsTrimmed K q → IsTrimmed K r
      → ((of_list K a ≡ nothing K) × (of_list K q ≡ nothing K) × (of_list K r ≡ nothing K)) ⊎ IsQuotient K (of_list K a) (of_list K b) (of_list K q) (of_list K r)
      → AreQuotient (shown_field S) (coefficients (shown_field S) xs) (coefficients (shown_field S) ys) (map number q) (map number r)
  quotient_carried xs ys a b q r e f s t divided = (pair divided, (trimmed_numbers q s, reduced_values q), (trimmed_numbers r t, reduced_values r))
    where
      L : FieldOn ℕ
      L = operations (shown_field S)

      IsPair : Type 0
      IsPair = ((coefficients (shown_field S) xs ≡ []) × (map number q ≡ []) × (map number r ≡ []))
          ⊎ IsQuotient L (of_list L (coefficients (shown_field S) xs)) (of_list L (coefficients (shown_field S) ys)) (of_list L (map number q)) (of_list L (map number r))

      pair : ((of_list K a ≡ nothing K) × (of_list K q ≡ nothing K) × (of_list K r ≡ nothing K)) ⊎ IsQuotient K (of_list K a) (of_list K b) (of_list K q) (of_list K r) → IsPair
      pair (inl zero) = inl (coefficients_nothing xs a e zero.0, numbers_nothing q s zero.1, numbers_nothing r t zero.2)
      pair (inr Q) =
          let carried_over = IsQuotient-carried number_carries is_zero (of_list K a) (of_list K b) (of_list K q) (of_list K r) Q in
          inr (subst (λ d. IsQuotient L d (of_list L (coefficients (shown_field S) ys)) (of_list L (map number q)) (of_list L (map number r))) (numbers_denote xs a e)
          (subst (λ d. IsQuotient L (λ i. number (of_list K a i)) d (of_list L (map number q)) (of_list L (map number r))) (numbers_denote ys b f)
          (subst (λ d. IsQuotient L (λ i. number (of_list K a i)) (λ i. number (of_list K b i)) d (of_list L (map number r))) (fun_ext (of_list-carried number_carries q))
          (subst (λ d. IsQuotient L (λ i. number (of_list K a i)) (λ i. number (of_list K b i)) (λ i. number (of_list K q i)) d) (fun_ext (of_list-carried number_carries r)) carried_over))))
