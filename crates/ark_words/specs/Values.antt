-- Lists of values, place by place.
use Rattle.std.specs.Prelude.{◌≡◌, ℕ, ◌/◌, ◌<◌, List, length}
use Rattle.ark_numbers.specs.Fields.{operations}
use Rattle.ark_words.specs.Numbers.{Spelled, number_at, AreWhole}

-- two lists of as many numbers
abbrev pub FitPairs : Spelled → List ℕ → List ℕ → Type 0
FitPairs f values others = AreWhole f values × (length others ≡ length values)

-- each number became its product with the other list's at the same place
abbrev pub AreProducts : Spelled → List ℕ → List ℕ → List ℕ → Type 0
AreProducts f old others new = (i : ℕ) → i < length old / f.width
    → number_at f.width new i ≡ (operations f.known).times (number_at f.width old i) (number_at f.width others i)
