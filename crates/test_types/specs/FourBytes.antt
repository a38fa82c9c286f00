-- The field of four elements in bytes: every element has a spelling of its own, of one byte.
use Rattle.std.proofs.Common.{◌≡◌, ℕ, ◌+◌, ◌%◌, ◌<◌, ◌==◌, nat_lt, Bool, true, false, cond, refl, sym, ap, ◌∙◌, lit<}
use Rattle.ark_math_formats.specs.Format.{IsFormat, IsOneToOne, number, stored, AreElements}
use Rattle.ark_math_formats.proofs.Formats.Ends.{number_is_format, lawful_is_format}
use Rattle.ark_math_formats.proofs.Formats.OneToOne.{number_tells, lawful_tells}
use Rattle.test_types.specs.declared.four.Four.{Four}
use Rattle.test_types.specs.Four.{bits}

-- an element's number: the high bit counts two
abbrev pub four_number : Four → ℕ
four_number x = cond x.high 2 0 + cond x.low 1 0

-- the element with a number below four
four_with : ℕ → Four
four_with n = bits (nat_lt 1 n) (n % 2 == 1)

found_again : (high low : Bool) → four_with (four_number (bits high low)) ≡ bits high low
unfolding four_with
found_again true true = refl
found_again true false = refl
found_again false true = refl
found_again false false = refl

same_number : (x y : Four) → four_number x ≡ four_number y → x ≡ y
same_number x y e = sym (found_again x.high x.low) ∙ ap four_with e ∙ found_again y.high y.low

one_byte : (high low : Bool) → four_number (bits high low) < 256
one_byte true true = lit< tt
one_byte true false = lit< tt
one_byte false true = lit< tt
one_byte false false = lit< tt

pub four_format : IsFormat (stored (number 1) four_number)
four_format = lawful_is_format (number 1) four_number (λ _. Unit {0}) (number_is_format 1)

pub four_tells : IsOneToOne (stored (number 1) four_number)
four_tells = lawful_tells (number 1) four_number (λ _. Unit {0}) (number_tells 1) same_number

pub four_elements : AreElements (stored (number 1) four_number) 1
four_elements = record {
  positive = lit< tt;
  all = λ x. (one_byte x.high x.low, tt);
  lengths = λ x. refl;
  one_to_one = four_tells;
}
