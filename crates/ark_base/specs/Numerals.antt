-- Numbers of any length as text.
use Rattle.std.specs.Prelude.{◌≡◌, ℕ, ◌==◌, false, List, ◌++◌, map, codes, if◌then◌else◌}
use Rattle.std.specs.Fmt.{digit_glyph}
use Rattle.std.specs.Int.Digits.{digits_of}
use Rattle.std.specs.Str.Parse.{IsNumeral, digits_value}

-- the text writes the number in decimal: one digit or more, and nothing else; zeros may stand first
pub record IsDecimal (text : List ℕ) (number : ℕ) : Type 0 where
  pub digits : IsNumeral 10 text
  pub value : number ≡ digits_value 10 text

-- the text writes the number in hexadecimal: `0x` and one digit or more, of either case
pub record IsHexadecimal (text : List ℕ) (number : ℕ) : Type 0 where
  pub rest : List ℕ
  pub begins : text ≡ codes "0x" ++ rest
  pub digits : IsNumeral 16 rest
  pub value : number ≡ digits_value 16 rest

-- the number's digits in a base of at most 16, small letters among them, with no zero before them
unfoldable pub numeral : ℕ → ℕ → List ℕ
numeral base n = if n == 0 then codes "0" else map (digit_glyph false) (digits_of base n)

-- the number in decimal, and in hexadecimal
abbrev pub decimal_text : ℕ → List ℕ
decimal_text n = numeral 10 n

abbrev pub hexadecimal_text : ℕ → List ℕ
hexadecimal_text n = codes "0x" ++ numeral 16 n
