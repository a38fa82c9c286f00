-- Which words spell a number, and which a list of numbers. A number may have any length, and zeros may stand first.
use Rattle.std.specs.Prelude.{◌≡◌, ℕ, List, [], ◌∷◌}
use Rattle.std.specs.List.{join_with_byte}
use Rattle.ark_base.specs.Numerals.{IsDecimal}

-- the byte between two numbers of a list
abbrev pub comma : ℕ
comma = 44

-- the words one after another, with a comma between each two
abbrev pub joined : List (List ℕ) → List ℕ
joined words = join_with_byte comma words

-- each word spells the number at its place, and there are as many of both
abbrev pub AreNumbers : List (List ℕ) → List ℕ → Type 0
AreNumbers [] [] = Unit {0}
AreNumbers (word ∷ words) (number ∷ numbers) = IsDecimal word number × AreNumbers words numbers
AreNumbers [] (number ∷ numbers) = ⊥
AreNumbers (word ∷ words) [] = ⊥

-- the numbers, joined by commas: the empty word is the empty list
pub record IsList (word numbers : List ℕ) : Type 0 where
  pub words : List (List ℕ)
  pub joins : word ≡ joined words
  pub spelled : AreNumbers words numbers

-- some number, and some list
abbrev pub SpellsNumber : List ℕ → Type 0
SpellsNumber word = (number : ℕ) × IsDecimal word number

abbrev pub SpellsList : List ℕ → Type 0
SpellsList word = (numbers : List ℕ) × IsList word numbers
