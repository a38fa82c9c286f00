-- Words spell zero where each is zero.
use Rattle.std.proofs.Common.{◌≡◌, ◌≢◌, zero, suc, ◌+◌, ◌*◌, ◌^◌, ◌<◌, ℕ, List, [], ◌∷◌, length, get_or, refl, ap₂, arith}
use Rattle.ark_math.specs.Words.{number_of_words}

pub zero_words : (words : List ℕ) → ((k : ℕ) → k < length words → get_or words k 0 ≡ 0) → number_of_words words ≡ 0
zero_words [] each = refl
zero_words (word ∷ words) each = ap₂ (λ w n. w + 2 ^ 64 * n) (each 0 (omega arith)) (zero_words words (λ k l. each (suc k) (omega arith)))

pub some_word : (words : List ℕ) (i : ℕ) → i < length words → get_or words i 0 ≢ 0 → number_of_words words ≢ 0
some_word [] i l some = absurd (omega arith)
some_word (word ∷ words) zero l some = λ e. some (omega arith)
some_word (word ∷ words) (suc i) l some = λ e. some_word words i (omega arith) some (omega arith)
