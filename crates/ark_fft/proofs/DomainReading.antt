-- What reading a domain gives: the one that has the fields that were read, or a fault where there is none.
use Rattle.std.proofs.Common.{◌≡◌, ◌≢◌, ◌↔◌, ◌⊎◌, ℕ, inl, inr, refl, sym, ap, subst, ◌∙◌, Option, Some, None, IfSome, IsNone}
use Rattle.std.specs.Option.{ok_or}
use Rattle.ark_math.specs.Field.{FieldOn}
use Rattle.ark_math.specs.Root.{Adicity, IsSupported}
use Rattle.ark_math_formats.specs.Format.{Format, IsFormat, IsOneToOne, word, number, ◌⊗◌, stored}
use Rattle.ark_fft.specs.Layouts.{DomainFields}
use Rattle.ark_fft.specs.LayoutLaws.{short_one_to_one, long_one_to_one}
use Rattle.ark_bytes.specs.declared.compress.Compress.{Compress}
use Rattle.ark_bytes.specs.declared.compress.Compress.TheVariants.{Yes, No}
use Rattle.ark_bytes.specs.declared.error.SerializationError.{SerializationError}
use Rattle.ark_bytes.specs.declared.error.SerializationError.TheVariants.{InvalidData}
use Rattle.ark_bytes.specs.Reading.{SourceState, TakesSpelling, Refuses, Reads}
use Rattle.ark_bytes.proofs.Reading.{refused_fields, refused_weaker, read_fields, unlawful}
use Rattle.ark_fft.specs.CosetBytes.{domain_format, size_and_offset, Finds}

neither : {M N : Type 0} → ¬ M → ¬ N → ¬ (M ⊎ N)
neither none not (inl m) = none m
neither none not (inr n) = not n

-- the domain of a size and an offset
pub finds_short : {F Y : Type 0} (K : FieldOn F) (s : Adicity) (short : Y → ℕ × F) (size : ℕ) (offset : F) (o : Option Y) → ((y : Y) → IsSupported s (short y).0) → ((y : Y) → (short y).1 ≢ K.zero)
    → IfSome o (λ c. (short c).0 ≡ size) → IfSome o (λ c. (short c).1 ≡ offset) → (IsNone o ↔ (¬ IsSupported s size) ⊎ (offset ≡ K.zero)) → Finds short (size, offset) o
finds_short K s short size offset (Some y) supported some p q n = λ i. (p i, q i)
finds_short K s short size offset None supported some p q n = λ y e. elim (n.0 refl) [
  | inl none ↦ none (subst (IsSupported s) (ap (λ v. v.0) e) (supported y))
  | inr zero ↦ some y (ap (λ v. v.1) e ∙ zero)
]

module _ {X Y : Type 0} (layout : Format X) (fields : Y → X) (one : IsOneToOne layout) where
  pub found : (a b : SourceState) (x : X) (o : Option Y) → Finds fields x o → TakesSpelling layout a b x → Reads (stored layout fields) ⊥ a b (ok_or o InvalidData)
  found a b x (Some y) f t = read_fields layout fields (λ _. Unit {0}) a b x y (sym f) tt t
  found a b x None f t = unlawful layout fields (λ _. Unit {0}) a b x (λ y has h same. f y (sym (one x (fields y) t.has has same))) t

module _ {F D : Type 0} (e : Format F) (fields : D → DomainFields F) (mode : Compress) where
  -- of numbers and elements, whose reading takes no memory
  pub refused_short : (M : Type 0) → ¬ M → mode ≡ Yes → (a b : SourceState) (error : SerializationError) → Refuses (word ⊗ e) (⊥ ⊎ M) a b error → Refuses (domain_format e fields mode) ⊥ a b error
  refused_short M none is a b error r =
      subst (λ m. Refuses (domain_format e fields m) ⊥ a b error) (sym is)
      (refused_fields (word ⊗ e) (λ d. size_and_offset (fields d)) (λ _. Unit {0}) ⊥ a b error
      (refused_weaker (word ⊗ e) (⊥ ⊎ M) ⊥ (neither (λ m. m) none) a b error r))

  pub refused_long : (M : Type 0) → ¬ M → mode ≡ No → (a b : SourceState) (error : SerializationError)
      → Refuses ((word ⊗ number 4) ⊗ (((e ⊗ e) ⊗ (e ⊗ e)) ⊗ ((e ⊗ e) ⊗ e))) ((⊥ ⊎ ⊥) ⊎ (((M ⊎ M) ⊎ (M ⊎ M)) ⊎ ((M ⊎ M) ⊎ M))) a b error → Refuses (domain_format e fields mode) ⊥ a b error
  refused_long M none is a b error r =
      let two : ¬ (M ⊎ M) = neither none none in
      let no_number : ¬ (⊥ ⊎ ⊥) = neither (λ m. m) (λ m. m) in
      subst (λ m. Refuses (domain_format e fields m) ⊥ a b error) (sym is)
      (refused_fields ((word ⊗ number 4) ⊗ (((e ⊗ e) ⊗ (e ⊗ e)) ⊗ ((e ⊗ e) ⊗ e))) fields (λ _. Unit {0}) ⊥ a b error
      (refused_weaker ((word ⊗ number 4) ⊗ (((e ⊗ e) ⊗ (e ⊗ e)) ⊗ ((e ⊗ e) ⊗ e))) ((⊥ ⊎ ⊥) ⊎ (((M ⊎ M) ⊎ (M ⊎ M)) ⊎ ((M ⊎ M) ⊎ M))) ⊥
      (neither no_number (neither (neither two two) (neither two none))) a b error r))

  module _ (E : IsFormat e) (one : IsOneToOne e) where
    pub found_short : mode ≡ Yes → (a b : SourceState) (x : ℕ × F) (o : Option D) → Finds (λ d. size_and_offset (fields d)) x o → TakesSpelling (word ⊗ e) a b x → Reads (domain_format e fields mode) ⊥ a b (ok_or o InvalidData)
    found_short is a b x o f t =
        subst (λ m. Reads (domain_format e fields m) ⊥ a b (ok_or o InvalidData)) (sym is) (found (word ⊗ e) (λ d. size_and_offset (fields d)) (short_one_to_one e E one) a b x o f t)

    pub found_long : mode ≡ No → (a b : SourceState) (x : DomainFields F) (o : Option D) → Finds fields x o → TakesSpelling ((word ⊗ number 4) ⊗ (((e ⊗ e) ⊗ (e ⊗ e)) ⊗ ((e ⊗ e) ⊗ e))) a b x
        → Reads (domain_format e fields mode) ⊥ a b (ok_or o InvalidData)
    found_long is a b x o f t =
        subst (λ m. Reads (domain_format e fields m) ⊥ a b (ok_or o InvalidData)) (sym is)
        (found ((word ⊗ number 4) ⊗ (((e ⊗ e) ⊗ (e ⊗ e)) ⊗ ((e ⊗ e) ⊗ e))) fields (long_one_to_one e E one) a b x o f t)
