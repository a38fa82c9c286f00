-- Which error a call answers.
use Rattle.ark_word_sums.specs.declared.error.SumsError.{SumsError}
use Rattle.ark_word_sums.specs.declared.error.SumsError.TheVariants.{Memory, Addends, NotReduced, Refused}
use Rattle.ark_words.specs.declared.error.WordsError.{WordsError}
use Rattle.ark_words.specs.declared.error.WordsError.TheVariants as words

-- of `prove` and `value_at`
abbrev pub IsOfSums : SumsError → Type 0
IsOfSums Refused = ⊥
IsOfSums other = Unit {0}

-- of `verify`
abbrev pub IsOfProofs : SumsError → Type 0
IsOfProofs Addends = ⊥
IsOfProofs other = Unit {0}

-- that a number isn't below the modulus, or else that memory was refused
abbrev pub IsRefusalOfNumbers : Type 0 → SumsError → Type 0
IsRefusalOfNumbers reduced NotReduced = ¬ reduced
IsRefusalOfNumbers reduced Memory = reduced
IsRefusalOfNumbers reduced other = ⊥

-- that the words spell no sum, or else that a number isn't below the modulus, or else that memory was refused
abbrev pub IsSumFault : (sum reduced : Type 0) → SumsError → Type 0
IsSumFault sum reduced Addends = ¬ sum
IsSumFault sum reduced NotReduced = sum × (¬ reduced)
IsSumFault sum reduced Memory = sum × reduced
IsSumFault sum reduced other = ⊥

-- the error of words that were read
abbrev pub of_words : WordsError → SumsError
of_words words.NotReduced = NotReduced
of_words other = Memory
