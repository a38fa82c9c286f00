-- How pieces spell what is known of a file.
use Rattle.std.specs.Prelude.{◌≢◌, ◌<◌, ℕ, List, [], ◌∷◌, ◌++◌, Contains}
use Rattle.std.specs.Int.{w32, w64, to_le_bytes}

-- the permissions, the time in seconds and nanoseconds, and the name
abbrev pub label_bytes : ℕ → ℕ → ℕ → List ℕ → List ℕ
label_bytes permissions seconds nanoseconds name =
    to_le_bytes w32 permissions ++ (to_le_bytes w64 seconds ++ (to_le_bytes w32 nanoseconds ++ name))

-- without a zero or a slash
abbrev pub IsOnePart : List ℕ → Type 0
IsOnePart name = (Contains name 0 → ⊥) × (Contains name 47 → ⊥)

-- names of files: not empty, neither `.` nor `..`, and of one part
abbrev pub IsName : List ℕ → Type 0
IsName name = (name ≢ []) × ((name ≢ 46 ∷ []) × ((name ≢ 46 ∷ 46 ∷ []) × IsOnePart name))

-- what a file can have
abbrev pub IsLawful : ℕ → ℕ → List ℕ → Type 0
IsLawful permissions nanoseconds name = (permissions < 4096) × ((nanoseconds < 1000000000) × IsName name)
