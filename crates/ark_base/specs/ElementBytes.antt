-- Elements in bytes: every element has a spelling of its own, all of one length.
use Rattle.std.specs.Prelude.{ℕ, ◌<◌, ◌^◌}
use Rattle.std.proofs.Math.Nat.{lt_of_lt_of_le}
use Rattle.ark_math_formats.specs.Format.{IsFormat, IsOneToOne, number, AreElements}
use Rattle.ark_base.specs.Residues.{Numbering}
use Rattle.ark_base.specs.Widths.{width_of, residue}
use Rattle.ark_math_formats.proofs.Formats.Ends.{number_is_format, lawful_is_format, length-little_endian}
use Rattle.ark_math_formats.proofs.Formats.OneToOne.{number_tells, lawful_tells}
use Rattle.ark_base.specs.WidthLaws.{width_fits, width_positive}

module _ {F : Type 0} {p : ℕ} (N : Numbering F p) where
  pub residue_format : IsFormat (residue p N.number)
  residue_format = lawful_is_format (number (width_of p)) N.number (λ _. Unit {0}) (number_is_format (width_of p))

  pub residue_tells : IsOneToOne (residue p N.number)
  residue_tells = lawful_tells (number (width_of p)) N.number (λ _. Unit {0}) (number_tells (width_of p)) N.same

  pub residue_elements : p < 2 ^ 64 → AreElements (residue p N.number) (width_of p)
  residue_elements small = record {
    positive = width_positive p;
    all = λ x. (lt_of_lt_of_le (N.below x) (width_fits p small), tt);
    lengths = λ x. length-little_endian (width_of p) (N.number x);
    one_to_one = residue_tells;
  }
