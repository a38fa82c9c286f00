-- Cosets in bytes: all their fields but the exponent of the odd base, which follows from the size, or size and offset.
use Rattle.std.specs.Prelude.{◌≡◌, ◌≢◌, ℕ, Bool, Decides, Option, Some, None}
use Rattle.ark_math.specs.Field.{FieldOn, IsField}
use Rattle.ark_math.specs.Root.{Adicity, IsAdicity}
use Rattle.ark_math_formats.specs.Format.{Format, IsFormat, IsOneToOne, KeepsAlike, Tells, AreAlike}
use Rattle.ark_fft.specs.Layouts.{DomainFields, long_domain, short_domain}
use Rattle.ark_fft.specs.LayoutLaws.{offset_of, long_is_format, short_is_format, long_tells, short_tells}
use Rattle.ark_fft.specs.LayoutLaws.{AreKept, short_keeps, short_keeps_long, long_keeps, long_keeps_short}
use Rattle.ark_bytes.specs.declared.compress.Compress.{Compress}
use Rattle.ark_bytes.specs.declared.compress.Compress.TheVariants.{Yes, No}
use Rattle.ark_fft.specs.declared.domain.coset.Coset.{Coset}

-- the fields of a coset in the order of its full spelling. What it keeps of the field's trait, in the unnamed arguments, is
-- not spelled
abbrev pub all_fields : {F : Type 0} {a b c d e f g h i j k l m n o p q r s t u : _} → Coset F a b c d e f g h i j k l m n o p q r s t u → DomainFields F
all_fields x = ((x.size, x.log_size_of_group), (((x.size_as_field_element, x.size_inv), (x.group_gen, x.group_gen_inv)), ((x.offset, x.offset_inv), x.offset_pow_size)))

-- of these fields the two from which all else follows
abbrev pub size_and_offset : {F : Type 0} → DomainFields F → ℕ × F
size_and_offset x = (x.0.0, offset_of x)

-- what a spelling shows: the size, and what that of an element shows of the offset
abbrev pub domain_shown : {F D V : Type 0} → (F → V) → (D → DomainFields F) → D → ℕ × V
domain_shown view fields d = ((fields d).0.0, view (offset_of (fields d)))

-- the value that has these fields, or nothing where none has
abbrev pub Finds : {X Y : Type 0} → (Y → X) → X → Option Y → Type 0
Finds fields x (Some y) = fields y ≡ x
Finds {Y = Y} fields x None = (y : Y) → fields y ≢ x

module _ {F D : Type 0} (e : Format F) (fields : D → DomainFields F) where
  -- a domain in each mode
  abbrev pub domain_format : Compress → Format D
  domain_format Yes = short_domain e (λ d. size_and_offset (fields d))
  domain_format No = long_domain e fields

  module _ (E : IsFormat e) where
    pub domain_is_format : (mode : Compress) → IsFormat (domain_format mode)
    domain_is_format Yes = short_is_format e E (λ d. size_and_offset (fields d))
    domain_is_format No = long_is_format e E fields

    pub domain_tells : {V : Type 0} (view : F → V) → Tells view e → (mode : Compress) → Tells (domain_shown view fields) (domain_format mode)
    domain_tells view one Yes = short_tells e E view one (λ d. size_and_offset (fields d))
    domain_tells view one No = long_tells e E view one fields

-- both modes tell the same
module _ {F D : Type 0} (K : FieldOn F) (N : IsField K) (s : Adicity) (root : ℕ → F) (eq : F → F → Bool) (adicity : IsAdicity s) (decides : (x y : F) → Decides (eq x y) (x ≡ y))
    (fields : D → DomainFields F) (odds : D → ℕ) (kept : (d : D) → AreKept K s root eq (odds d) (fields d)) where
  pub domain_keeps : (e other : Format F) → IsFormat e → IsOneToOne e → ((x : F) → other.HasSpelling x) → AreAlike e other
      → (mode too : Compress) → KeepsAlike (domain_format e fields mode) (domain_format other fields too)
  domain_keeps e other E one all A Yes Yes = short_keeps e other A (λ d. size_and_offset (fields d))
  domain_keeps e other E one all A Yes No = short_keeps_long K N s root eq adicity decides fields odds kept e other E one all
  domain_keeps e other E one all A No Yes = long_keeps_short fields e other E one all
  domain_keeps e other E one all A No No = long_keeps e other A fields
