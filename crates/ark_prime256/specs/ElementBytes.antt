-- Elements in bytes: every element has a spelling of its own, all of 32 bytes.
use Rattle.std.proofs.Common.{lt_trans, lit<}
use Rattle.ark_math_formats.specs.Format.{Format, IsFormat, IsOneToOne, number, stored, AreElements}
use Rattle.ark_math_formats.proofs.Formats.Ends.{number_is_format, lawful_is_format, length-little_endian}
use Rattle.ark_math_formats.proofs.Formats.OneToOne.{number_tells, lawful_tells}
use Rattle.ark_prime256.specs.Element.{Shown, number_below, same_by_number}
use Rattle.ark_prime256.specs.Element as element
use Rattle.ark_prime256.specs.declared.prime_field.PrimeField256.{PrimeField256}
use Rattle.ark_prime256.specs.declared.prime_field.PrimeModulus256.{Ghosts}

-- an element: its number below the modulus, in 32 bytes
abbrev pub residue_in_bytes : {M : Type 0} {g : Ghosts M} → Format (PrimeField256 M g)
residue_in_bytes = stored (number 32) element.number

module _ {M : Type 0} {g : Ghosts M} where
  pub element_format : IsFormat (residue_in_bytes {M = M} {g = g})
  element_format = lawful_is_format (number 32) (λ (x : PrimeField256 M g). element.number x) (λ _. Unit {0}) (number_is_format 32)

  pub element_tells : Shown g → IsOneToOne (residue_in_bytes {M = M} {g = g})
  element_tells S = lawful_tells (number 32) (λ (x : PrimeField256 M g). element.number x) (λ _. Unit {0}) (number_tells 32) (same_by_number S)

  pub elements_in_bytes : Shown g → AreElements (residue_in_bytes {M = M} {g = g}) 32
  elements_in_bytes S = record {
    positive = lit< tt;
    all = λ x. (lt_trans (number_below S x) (lt_trans S.numbers.small (lit< tt)), tt);
    lengths = λ x. length-little_endian 32 (element.number x);
    one_to_one = element_tells S;
  }
