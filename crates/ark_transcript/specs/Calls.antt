-- The calls of a transcript, and the bytes that they spell.
use Rattle.std.specs.Prelude.{ℕ, ◌<◌, ◌^◌, List, ◌∷◌, ◌++◌, length}
use Rattle.std.specs.Int.{w64, to_le_bytes}
use Rattle.std.specs.List.{flat_map, AllByRecursion}

-- a call: a transcript is begun, bytes are absorbed, or so many are asked for; each under a label
pub data Call : Type 0 where
  Begun : (label : List ℕ) → Call
  Absorbed : (label bytes : List ℕ) → Call
  Asked : (label : List ℕ) (size : ℕ) → Call

-- bytes, and before them how many these are
abbrev pub counted : List ℕ → List ℕ
counted bytes = to_le_bytes w64 (length bytes) ++ bytes

-- the bytes of a call: one that tells which it is, its label, and the bytes or their number
abbrev pub spelled_call : Call → List ℕ
spelled_call (Begun label) = 0 ∷ counted label
spelled_call (Absorbed label bytes) = 1 ∷ (counted label ++ counted bytes)
spelled_call (Asked label size) = 2 ∷ (counted label ++ to_le_bytes w64 size)

-- the bytes of calls, one after another
abbrev pub spelled : List Call → List ℕ
spelled calls = flat_map spelled_call calls

-- all lengths of a call are below 2^64
abbrev pub Fits : Call → Type 0
Fits (Begun label) = length label < 2 ^ 64
Fits (Absorbed label bytes) = (length label < 2 ^ 64) × (length bytes < 2 ^ 64)
Fits (Asked label size) = (length label < 2 ^ 64) × (size < 2 ^ 64)

abbrev pub AllFit : List Call → Type 0
AllFit calls = AllByRecursion Fits calls
