-- Lists of four words.
use Rattle.std.proofs.Common.{◌≡◌, ℕ, ◌+◌, ◌*◌, ◌^◌, List, [], ◌∷◌, length, get_or, arith}
use Rattle.ark_math.specs.Words.{number_of_words}

pub four_words : (words : List ℕ) → length words ≡ 4 →
    get_or words 0 0 + 2 ^ 64 * get_or words 1 0 + 2 ^ 128 * get_or words 2 0 + 2 ^ 192 * get_or words 3 0 ≡ number_of_words words
four_words (a ∷ (b ∷ (c ∷ (d ∷ [])))) e = omega arith
four_words [] e = absurd (omega (arith, e))
four_words (a ∷ []) e = absurd (omega (arith, e))
four_words (a ∷ (b ∷ [])) e = absurd (omega (arith, e))
four_words (a ∷ (b ∷ (c ∷ []))) e = absurd (omega (arith, e))
four_words (a ∷ (b ∷ (c ∷ (d ∷ (e' ∷ rest))))) e = absurd (omega (arith, e))
