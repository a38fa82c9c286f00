-- Domains in bytes: each is spelled as its coset, and one of either kind with a tag before it.
use Rattle.std.specs.Prelude.{◌≡◌, ◌⊎◌, ℕ, Bool, Decides}
use Rattle.std.proofs.Common.{inl, inr, sym, ap, ◌∙◌}
use Rattle.ark_math.specs.Field.{FieldOn, IsField}
use Rattle.ark_math.specs.Root.{Adicity, IsAdicity}
use Rattle.ark_math_formats.specs.Format.{Format, IsFormat, KeepsAlike, Tells, IsOneToOne, stored, either, shown_either, AreAlike}
use Rattle.ark_univariate.specs.Layouts.{general_domain as tagged}
use Rattle.ark_fft.specs.Layouts.{DomainFields}
use Rattle.ark_fft.specs.LayoutLaws.{AreKept}
use Rattle.ark_math_formats.proofs.Formats.Ends.{lawful_is_format, either_is_format}
use Rattle.ark_math_formats.proofs.Formats.Modes.{keeps_by_fields, keeps_in_either}
use Rattle.ark_math_formats.proofs.Formats.OneToOne.{lawful_shows, either_shows}
use Rattle.ark_bytes.specs.declared.compress.Compress.{Compress}
use Rattle.ark_bytes.specs.declared.one_of_two.Either.{Either}
use Rattle.ark_bytes.specs.declared.one_of_two.Either.TheVariants.{First, Second}
use Rattle.ark_bytes.specs.Either.{sum_of}
use Rattle.ark_fft.specs.declared.domain.coset.Coset.{Coset}
use Rattle.ark_fft.specs.CosetBytes.{all_fields, size_and_offset, domain_format, domain_is_format, domain_keeps, domain_shown, domain_tells}
use Rattle.ark_univariate.specs.declared.domain.radix2.Radix2EvaluationDomain.{Radix2EvaluationDomain}
use Rattle.ark_univariate.specs.declared.domain.mixed_radix.MixedRadixEvaluationDomain.{MixedRadixEvaluationDomain}
use Rattle.ark_univariate.specs.declared.domain.general.GeneralEvaluationDomain.{GeneralEvaluationDomain}
use Rattle.ark_univariate.specs.declared.domain.general.GeneralEvaluationDomain.TheVariants.{Radix2, MixedRadix}

-- what a type keeps of the field, in the unnamed arguments, is not spelled

abbrev pub radix2_coset : {F : Type 0} {a b c d e f g h i j k l m n o p q r s t u : _} → Radix2EvaluationDomain F a b c d e f g h i j k l m n o p q r s t u → Coset F a b c d e f g h i j k l m n o p q r s t u
radix2_coset domain = domain.coset

abbrev pub mixed_radix_coset : {F : Type 0} {a b c d e f g h i j k l m n o p q r s t u : _} → MixedRadixEvaluationDomain F a b c d e f g h i j k l m n o p q r s t u → Coset F a b c d e f g h i j k l m n o p q r s t u
mixed_radix_coset domain = domain.coset

-- what a coset keeps is what its size and offset make
pub coset_kept : {F : Type 0} {a b c d e f g h i j k l m n o p q r s t u : _} (x : Coset F a b c d e f g h i j k l m n o p q r s t u) → AreKept b.field a.adicity a.root c.eq x.odd_exponent (all_fields x)
coset_kept x = record {
  splits = x.splits;
  size_element_is = x.size_element_is;
  size_inverse_is = x.size_inverse_is;
  root_is = x.root_is;
  root_inverse_is = x.root_inverse_is;
  offset_inverse_is = x.offset_inverse_is;
  offset_power_is = x.offset_power_is;
}

-- which of both kinds
abbrev pub either_of : {F : Type 0} {a b c d e f g h i j k l m n o p q r s t u : _} → GeneralEvaluationDomain F a b c d e f g h i j k l m n o p q r s t u
    → Either (Radix2EvaluationDomain F a b c d e f g h i j k l m n o p q r s t u) (MixedRadixEvaluationDomain F a b c d e f g h i j k l m n o p q r s t u)
either_of (Radix2 domain) = First domain
either_of (MixedRadix domain) = Second domain

-- a domain with a coset of these fields
module _ {F C D : Type 0} (fields : C → DomainFields F) (coset : D → C) (e : Format F) where
  abbrev pub coset_format : Compress → Format D
  coset_format mode = stored (domain_format e fields mode) coset

  module _ (E : IsFormat e) where
    pub coset_is_format : (mode : Compress) → IsFormat (coset_format mode)
    coset_is_format mode = lawful_is_format (domain_format e fields mode) coset (λ _. Unit {0}) (domain_is_format e fields E mode)

    pub coset_tells : {V : Type 0} (view : F → V) → Tells view e → (mode : Compress) → Tells (λ d. domain_shown view fields (coset d)) (coset_format mode)
    coset_tells view one mode =
        lawful_shows (domain_format e fields mode) coset (λ _. Unit {0}) (domain_shown view fields) (λ d. domain_shown view fields (coset d))
        (domain_tells e fields E view one mode) (λ x y same. same)

    -- a spelling tells what follows from size and offset
    pub coset_told : {V : Type 0} (view : D → V) → IsOneToOne e → ((x y : D) → size_and_offset (fields (coset x)) ≡ size_and_offset (fields (coset y)) → view x ≡ view y) → (mode : Compress) → Tells view (coset_format mode)
    coset_told view one told mode x y p q same = told x y (coset_tells (λ v. v) one mode x y p q same)

-- both modes tell the same
module _ {F C : Type 0} (K : FieldOn F) (N : IsField K) (s : Adicity) (root : ℕ → F) (eq : F → F → Bool) (adicity : IsAdicity s) (decides : (x y : F) → Decides (eq x y) (x ≡ y))
    (fields : C → DomainFields F) (odds : C → ℕ) (kept : (c : C) → AreKept K s root eq (odds c) (fields c)) where
  pub coset_keeps : {D : Type 0} (coset : D → C) (e other : Format F) → IsFormat e → IsOneToOne e → ((x : F) → other.HasSpelling x) → AreAlike e other
      → (mode too : Compress) → KeepsAlike (coset_format fields coset e mode) (coset_format fields coset other too)
  coset_keeps coset e other E one all A mode too =
      keeps_by_fields (domain_format e fields mode) (domain_format other fields too) coset (λ _. Unit {0})
      (domain_keeps K N s root eq adicity decides fields odds kept e other E one all A mode too)

-- the value, whichever of both it is
abbrev pub untagged : {V : Type 0} → V ⊎ V → V
untagged (inl v) = v
untagged (inr v) = v

-- a domain of either kind
module _ {A B D : Type 0} (pick : D → Either A B) (radix2 : Format A) (mixed : Format B) where
  abbrev pub either_format : Format D
  either_format = stored (tagged radix2 mixed sum_of) pick

  pub either_domain_is_format : IsFormat radix2 → IsFormat mixed → IsFormat either_format
  either_domain_is_format P Q =
      lawful_is_format (tagged radix2 mixed sum_of) pick (λ _. Unit {0})
      (lawful_is_format (either radix2 mixed) sum_of (λ _. Unit {0}) (either_is_format radix2 mixed P Q))

  pub either_domain_tells : {V W : Type 0} (left : A → V) (right : B → W) → Tells left radix2 → Tells right mixed → Tells (λ d. shown_either left right (sum_of (pick d))) either_format
  either_domain_tells left right one two =
      lawful_shows (tagged radix2 mixed sum_of) pick (λ _. Unit {0}) (λ v. shown_either left right (sum_of v)) (λ d. shown_either left right (sum_of (pick d)))
      (lawful_shows (either radix2 mixed) sum_of (λ _. Unit {0}) (shown_either left right) (λ v. shown_either left right (sum_of v)) (either_shows radix2 mixed left right one two) (λ x y same. same))
      (λ x y same. same)

  pub either_domain_keeps : (other : Format A) (too : Format B) → KeepsAlike radix2 other → KeepsAlike mixed too → KeepsAlike either_format (stored (tagged other too sum_of) pick)
  either_domain_keeps other too P Q =
      keeps_by_fields (tagged radix2 mixed sum_of) (tagged other too sum_of) pick (λ _. Unit {0})
      (keeps_by_fields (either radix2 mixed) (either other too) sum_of (λ _. Unit {0}) (keeps_in_either radix2 other mixed too P Q))

  -- what both kinds tell
  pub either_told : {V : Type 0} (view : D → V) (left : A → V) (right : B → V) → ((d : D) → view d ≡ untagged (shown_either left right (sum_of (pick d)))) → Tells left radix2 → Tells right mixed → Tells view either_format
  either_told view left right is one two x y p q same = is x ∙ ap untagged (either_domain_tells left right one two x y p q same) ∙ sym (is y)
