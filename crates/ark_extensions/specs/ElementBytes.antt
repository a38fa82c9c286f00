-- Elements of a quadratic extension in bytes: the coefficient of 1, and then that of x.
use Rattle.std.proofs.Common.{ℕ, ◌+◌, ap₂, arith, ◌∙◌}
use Rattle.std.proofs.lemmas.List.{length-append}
use Rattle.ark_math_formats.specs.Format.{Format, IsFormat, Tells, IsOneToOne, KeepsAlike, ◌⊗◌, stored, AreElements, AreAlike}
use Rattle.ark_math_formats.proofs.Formats.Ends.{pair_is_format, lawful_is_format}
use Rattle.ark_math_formats.proofs.Formats.OneToOne.{pair_shows, pair_tells, lawful_shows, lawful_tells}
use Rattle.ark_math_formats.proofs.Formats.Modes.{pair_alike, lawful_alike, keeps_in_pairs, keeps_by_fields}
use Rattle.ark_extensions.specs.Elements.{coefficients}
use Rattle.ark_extensions.specs.ElementLaws.{same_element}
use Rattle.ark_extensions.specs.declared.quadratic.Quadratic.{Quadratic}

abbrev pub in_bytes : {F M : Type 0} → Format F → Format (Quadratic F M)
in_bytes e = stored (e ⊗ e) coefficients

module _ {F M : Type 0} (e : Format F) where
  abbrev pub here : Format (Quadratic F M)
  here = in_bytes e

  pub in_bytes_format : IsFormat e → IsFormat here
  in_bytes_format is = lawful_is_format (e ⊗ e) coefficients (λ _. Unit {0}) (pair_is_format e e is is)

  -- a spelling tells what those of both coefficients tell
  pub in_bytes_shows : {V : Type 0} (view : F → V) → IsFormat e → Tells view e → Tells {V = V × V} (λ x. (view x.c0, view x.c1)) here
  in_bytes_shows view is one =
      lawful_shows (e ⊗ e) coefficients (λ _. Unit {0}) (λ p. (view p.0, view p.1)) (λ x. (view x.c0, view x.c1))
      (pair_shows e e is view view one one) (λ x y h. h)

  in_bytes_tells : IsFormat e → IsOneToOne e → IsOneToOne here
  in_bytes_tells is one = lawful_tells (e ⊗ e) coefficients (λ _. Unit {0}) (pair_tells e e is one one) same_element

  pub in_bytes_elements : (size : ℕ) → IsFormat e → AreElements e size → AreElements here (size + size)
  in_bytes_elements size is each = record {
    positive = let h = each.positive in omega arith;
    all = λ x. ((each.all x.c0, each.all x.c1), tt);
    lengths = λ x. length-append (e.spelling x.c0) (e.spelling x.c1) ∙ ap₂ (λ m n. m + n) (each.lengths x.c0) (each.lengths x.c1);
    one_to_one = in_bytes_tells is each.one_to_one;
  }

  module _ (other : Format F) (alike : AreAlike e other) where
    pub in_bytes_alike : AreAlike here (in_bytes {F = F} {M = M} other)
    in_bytes_alike = lawful_alike coefficients (λ _. Unit {0}) (e ⊗ e) (other ⊗ other) (pair_alike e other e other alike alike)

  -- values that are spelled alike in one mode are so in the other one, if their coefficients are
  pub in_bytes_keeps : (other : Format F) → IsFormat e → KeepsAlike e other → KeepsAlike here (in_bytes {F = F} {M = M} other)
  in_bytes_keeps other is keeps =
      keeps_by_fields (e ⊗ e) (other ⊗ other) coefficients (λ _. Unit {0}) (keeps_in_pairs e other e other is keeps keeps)
