-- Numbers of several words.
use Rattle.std.specs.Prelude.{ℕ, ◌+◌, ◌*◌, ◌^◌, List, [], ◌∷◌}

-- the number that words of 64 bits spell, the low one first
abbrev pub number_of_words : List ℕ → ℕ
number_of_words [] = 0
number_of_words (word ∷ words) = word + 2 ^ 64 * number_of_words words
