-- The lines that are written.
use Rattle.std.specs.Prelude.{ℕ, Bool, true, false, List, [], ◌∷◌, ◌++◌, map, decimal, codes}
use Rattle.ark_base.specs.Numerals.{decimal_text}
use Rattle.polyrun_lib.specs.Words.{joined}
use Rattle.ark_traits.specs.declared.error.PolyError.{PolyError}
use Rattle.ark_traits.specs.declared.error.PolyError.TheVariants.{Memory, NoDomain, Overflow, ForeignSubdomain, ZeroDivisor, NotSparse}

-- a text and the newline that ends it
abbrev pub ended : List ℕ → List ℕ
ended text = text ++ 10 ∷ []

-- the numbers in decimal, joined by commas: the empty list is an empty line
abbrev pub line_of : List ℕ → List ℕ
line_of numbers = ended (joined (map decimal_text numbers))

-- what is said of a row: its number, and whether it is good
abbrev pub row_line_of : ℕ → Bool → List ℕ
row_line_of number true = decimal number ++ ended (codes " ok")
row_line_of number false = decimal number ++ ended (codes " bad")

-- each refusal by its number and its name
abbrev pub refusal_text : PolyError → List ℕ
refusal_text Memory = codes "error 1: Memory"
refusal_text NoDomain = codes "error 2: NoDomain"
refusal_text Overflow = codes "error 3: Overflow"
refusal_text ForeignSubdomain = codes "error 4: ForeignSubdomain"
refusal_text ZeroDivisor = codes "error 5: ZeroDivisor"
refusal_text NotSparse = codes "error 6: NotSparse"

abbrev pub refusal_line_of : PolyError → List ℕ
refusal_line_of refusal = ended (refusal_text refusal)

-- what is written where the words are no command
abbrev pub usage_text : List ℕ
usage_text = ended (codes "usage")
