-- The numbers of elements are those of an answer's lines.
use Rattle.std.proofs.Common.{◌≡◌, ◌⊎◌, ◌%◌, ℕ, List, [], ◌∷◌, ◌++◌, ◌≢◌, length, Result, Ok, Err, map, IfOk, IsOkUnless, string_bytes, inl, inr, refl, sym, ap, subst, ◌∙◌}
use Rattle.ark_math.specs.Field.{FieldOn}
use Rattle.ark_math.specs.Module.{ModuleOn, IsItself, itself}
use Rattle.ark_math.specs.Domain.{Domain}
use Rattle.ark_math.specs.Transform.{transform, value_at, IsInverse}
use Rattle.ark_math_variables.specs.Multilinear.{extension}
use Rattle.ark_math.specs.Univariate.{of_list, product, nothing, IsTrimmed, IsQuotient}
use Rattle.ark_math_polynomials.proofs.Polynomials.UnivariateLists.{zero_divisor_cases}
use Rattle.ark_math_transforms.proofs.Transforms.Inversion.{inverse_exists}
use Rattle.ark_math_transforms.proofs.Domains.Domains.{root_order, size_not_zero}
use Rattle.std.specs.Result.{IsErrAnd}
use Rattle.std.specs.Prelude.{IsErr}
use Rattle.std.proofs.lemmas.Result.{IfOk-from_err}
use Rattle.std.specs.declared.string.String.{String}
use Rattle.std.specs.declared.alloc.Global.{Global}
use Rattle.ark_traits.specs.declared.error.PolyError.{PolyError}
use Rattle.ark_traits.specs.declared.error.PolyError.TheVariants.{Memory}
use Rattle.polyrun_lib.specs.Lines.{line_of}
use Rattle.polyrun_lib.specs.declared.command.Direction.{Direction}
use Rattle.polyrun_lib.specs.declared.command.Direction.TheVariants.{Forward, Inverse}
use Rattle.polyrun_lib.specs.Commands.{Command, transform_of, product_of, division_of, value_of, extension_of}
use Rattle.ark_numbers.specs.Fields.{Known, reduced}
use Rattle.ark_numbers.specs.Answers.{coefficients, domain_of, IsChosen}
use Rattle.ark_numbers.proofs.Values.{NumberField, shown_field, field_laws, module_laws, IsOurs, is_domain_for, values_carried, interpolated_carried, interpolated_plain, elements_of, values_of_elements, value_carried, extension_carried, HasNoPlaces, product_carried, some_places, quotient_carried}
use Rattle.polyrun_lib.specs.Answer.{IsTransformed, Gives, TakesMemory}
use Rattle.polyrun_lib.specs.Outcome.{MayRefuse, IsOutcome}

-- a line that is what the command gives, or want of memory for it
pub outcome_line : (f : Known) (c : Command) (outcome : Result (String Global) PolyError) (line : List ℕ) → Gives f c line → IfOk outcome (λ text. string_bytes text ≡ line) → IsOkUnless outcome Memory → IsOutcome f c outcome
outcome_line f c (Ok text) line gives same memory = subst (Gives f c) (sym same) gives
outcome_line f c (Err error) line gives same memory = inr (inl (line, gives), memory)

pub outcome_error : (f : Known) (c : Command) (outcome : Result (String Global) PolyError) (error : PolyError) → IsErrAnd outcome (λ e. e ≡ error) → MayRefuse f c error → IsOutcome f c outcome
outcome_error f c (Ok text) error same refused = absurd same
outcome_error f c (Err told) error same refused = subst (MayRefuse f c) (sym same) refused

-- what is found is no error
pub found_is_no_error : {A E : Type 0} {x : A} {error : E} → Ok x ≡ Err error → ⊥
found_is_no_error {E = E} {x = x} e = IfOk-from_err {E = E} (Ok x) (λ y. ⊥) (subst (λ r. IsErr r) (sym e) refl)

-- ---- the lines of answers

module _ {F : Type 0} (S : NumberField F) where
  abbrev K : FieldOn F
  K = S.field

  abbrev number : F → ℕ
  number = S.numbering.number

  -- what a transform's call promises of the list before and after it, told by the elements' meanings
  abbrev pub IsShown : {M : Type 0} → ModuleOn F M → (F → M) → Direction → Domain F → List F → List F → Type 0
  IsShown V meaning Forward d items after = map meaning after ≡ transform K V d (map meaning items)
  IsShown V meaning Inverse d items after = IsInverse K V d (map meaning items) (map meaning after)

  pub transformed : {M : Type 0} (V : ModuleOn F M) (meaning : F → M) → IsItself K V meaning → (direction : Direction) (d : Domain F) (h : ℕ) (xs : List ℕ) (items after : List F)
      → IsOurs S d → number d.offset ≡ h % S.modulus → map number items ≡ xs → IsShown V meaning direction d items after
      → IsTransformed (shown_field S) direction (domain_of (shown_field S) d.kind d.size h) xs (map number after)
  transformed V meaning own Forward d h xs items after lawful offset same e = values_carried S V meaning own d h xs items after lawful offset same e
  transformed V meaning own Inverse d h xs items after lawful offset same inverse = interpolated_carried S V meaning own d h xs items after lawful offset same inverse

  pub gives_transform : {M : Type 0} (V : ModuleOn F M) (meaning : F → M) → IsItself K V meaning → (direction : Direction) (d : Domain F) (k h : ℕ) (xs : List ℕ) (items after : List F)
      → IsChosen S.adicity k d.kind d.size → IsOurs S d → number d.offset ≡ h % S.modulus → map number items ≡ reduced (shown_field S) xs → IsShown V meaning direction d items after
      → Gives (shown_field S) (transform_of direction k h xs) (line_of (map number after))
  gives_transform V meaning own direction d k h xs items after chosen lawful offset same shown = (
    domain_of (shown_field S) d.kind d.size h,
    map number after,
    is_domain_for S d k h chosen lawful offset,
    transformed V meaning own direction d h (reduced (shown_field S) xs) items after lawful offset same shown,
    refl,
  )

  -- there is an answer where the memory for it is refused
  pub some_transform : (direction : Direction) (d : Domain F) (k h : ℕ) (xs : List ℕ) → IsChosen S.adicity k d.kind d.size → IsOurs S d → number d.offset ≡ h % S.modulus
      → TakesMemory (shown_field S) (transform_of direction k h xs)
  some_transform Forward d k h xs chosen lawful offset = inl (_, (domain_of (shown_field S) d.kind d.size h, _, is_domain_for S d k h chosen lawful offset, refl, refl))
  some_transform Inverse d k h xs chosen lawful offset =
      let items = elements_of S xs in
      let inverse = inverse_exists (field_laws S) (module_laws S) d (root_order K S.adicity S.root d S.roots lawful) (size_not_zero K S.adicity S.root d S.roots lawful) lawful.offset_not_zero items in
      let shown = interpolated_plain S d h (reduced (shown_field S) xs) items inverse.0 lawful offset (values_of_elements S xs) inverse.1 in
      inl (_, (domain_of (shown_field S) d.kind d.size h, map number inverse.0, is_domain_for S d k h chosen lawful offset, shown, refl))

  pub gives_value : (xs : List ℕ) (x : ℕ) (items : List F) (at_x y : F) → map number items ≡ reduced (shown_field S) xs → number at_x ≡ x % S.modulus → y ≡ value_at K (itself K) items at_x
      → Gives (shown_field S) (value_of xs x) (line_of (map number (y ∷ [])))
  gives_value xs x items at_x y same e f = ap (λ t. line_of (t ∷ [])) (value_carried S _ _ items at_x y same e f)

  pub gives_extension : (n : ℕ) (xs x : List ℕ) (items point : List F) (y : F) → map number items ≡ reduced (shown_field S) xs → map number point ≡ reduced (shown_field S) x → y ≡ extension K (of_list K items) point
      → Gives (shown_field S) (extension_of n xs x) (line_of (map number (y ∷ [])))
  gives_extension n xs x items point y same e f = ap (λ t. line_of (t ∷ [])) (extension_carried S _ _ items point y same e f)

  pub gives_product : (xs ys : List ℕ) (a b c : List F) → map number a ≡ coefficients (shown_field S) xs → map number b ≡ coefficients (shown_field S) ys
      → of_list K c ≡ product K (of_list K a) (of_list K b) → IsTrimmed K c → (HasNoPlaces S (length a) (length b) → ⊥)
      → Gives (shown_field S) (product_of xs ys) (line_of (map number c))
  gives_product xs ys a b c e f whole trimmed some = (map number c, product_carried S xs ys a b c e f whole trimmed, some_places S xs ys a b e f some, refl)

  pub gives_quotient : (xs ys : List ℕ) (a b q r : List F) → map number a ≡ coefficients (shown_field S) xs → map number b ≡ coefficients (shown_field S) ys
      → IsTrimmed K q → IsTrimmed K r
      → ((of_list K a ≡ nothing K) × (of_list K q ≡ nothing K) × (of_list K r ≡ nothing K)) ⊎ IsQuotient K (of_list K a) (of_list K b) (of_list K q) (of_list K r)
      → Gives (shown_field S) (division_of xs ys) (line_of (map number q) ++ line_of (map number r))
  gives_quotient xs ys a b q r e f s t divided = (map number q, map number r, quotient_carried S xs ys a b q r e f s t divided, refl)

-- what a division of a by e promises makes quotient and remainder of two trimmed lists, or zeros
pub quotient_or_zeros : {F : Type 0} (K : FieldOn F) (c d : List F) (a e q r : ℕ → F) → IsTrimmed K c → IsTrimmed K d → a ≡ of_list K c → e ≡ of_list K d → (e ≢ nothing K → IsQuotient K a e q r) → (a ≡ nothing K → (q ≡ nothing K) × (r ≡ nothing K)) → ((a ≢ nothing K) × (e ≡ nothing K) → ⊥)
    → ((of_list K c ≡ nothing K) × (q ≡ nothing K) × (r ≡ nothing K)) ⊎ IsQuotient K (of_list K c) (of_list K d) q r
quotient_or_zeros K c d a e q r s t is_a is_e quotient zeros some = by_cases (zero_divisor_cases K c d s t)
  where
    by_cases : (of_list K d ≢ nothing K) ⊎ ((of_list K c ≡ nothing K) × (of_list K d ≡ nothing K)) ⊎ ((of_list K c ≢ nothing K) × (of_list K d ≡ nothing K)) → ((of_list K c ≡ nothing K) × (q ≡ nothing K) × (r ≡ nothing K)) ⊎ IsQuotient K (of_list K c) (of_list K d) q r
    by_cases (inl other) = inr (subst (λ x. IsQuotient K x (of_list K d) q r) is_a (subst (λ x. IsQuotient K a x q r) is_e (quotient (λ z. other (sym is_e ∙ z)))))
    by_cases (inr (inl both)) = let none = zeros (is_a ∙ both.0) in inl (both.0, none.0, none.1)
    by_cases (inr (inr alone)) = absurd (some ((λ z. alone.0 (sym is_a ∙ z)), is_e ∙ alone.1))
