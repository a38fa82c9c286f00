-- The challenges that follow from the calls of a transcript.
use Rattle.std.specs.Prelude.{◌≡◌, ◌≢◌, ◌⊎◌, ℕ, suc, zero, ◌/◌, ◌%◌, List, [], ◌∷◌, ◌++◌, slice_index}
use Rattle.std.specs.Int.{w64, from_le_bytes, to_le_bytes}
use Rattle.sha2.specs.Sha256.{sha256}
use Rattle.ark_math.specs.Field.{FieldOn, natural}
use Rattle.ark_math_formats.specs.Format.{Format}
use Rattle.ark_math.specs.Module.{tabulate}
use Rattle.ark_transcript.specs.Calls.{Call, Asked, spelled}

-- block i after a text: the digest of the text and i
abbrev pub block : List ℕ → ℕ → List ℕ
block text i = sha256 (text ++ to_le_bytes w64 i)

-- the first bytes of the blocks after a text
abbrev pub squeezed : List ℕ → ℕ → List ℕ
squeezed text size = tabulate size (λ j. slice_index (block text (j / 32)) (j % 32))

-- the calls, and after them one that asks for so many bytes
abbrev pub then_asked : List Call → List ℕ → ℕ → List Call
then_asked calls label size = calls ++ Asked label size ∷ []

-- the bytes of a challenge after calls
abbrev pub challenge_of : List Call → List ℕ → ℕ → List ℕ
challenge_of calls label size = squeezed (spelled (then_asked calls label size)) size

-- the element x that is asked for after calls, in so many tries, and the calls with those for x: a try asks for as many
-- bytes as an element has, and the first that spell an element give it; where none do, the number that eight more bytes
-- spell
unfoldable pub IsChallenge : {F : Type 0} → FieldOn F → Format F → ℕ → List ℕ → ℕ → List Call → F → List Call → Type 0
IsChallenge K e size label zero calls x after =
    (x ≡ natural K (from_le_bytes w64 (challenge_of calls label 8))) × (after ≡ then_asked calls label 8)
IsChallenge {F} K e size label (suc tries) calls x after =
    ((challenge_of calls label size ≡ e.spelling x) × (after ≡ then_asked calls label size))
    ⊎ (((y : F) → challenge_of calls label size ≢ e.spelling y) × IsChallenge K e size label tries (then_asked calls label size) x after)

-- the text whose digest is the first block of a challenge
abbrev pub hashed_for : List Call → List ℕ → ℕ → List ℕ
hashed_for calls label size = spelled (then_asked calls label size) ++ to_le_bytes w64 0

-- two texts differ and have one digest
pub record Collide (left right : List ℕ) : Type 0 where
  pub differ : left ≢ right
  pub same : sha256 left ≡ sha256 right
