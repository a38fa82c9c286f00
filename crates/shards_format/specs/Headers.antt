-- How a piece spells its header.
use Rattle.std.specs.Prelude.{ℕ, List, [], ◌∷◌, ◌++◌, length}
use Rattle.std.specs.Int.{w32, to_le_bytes}

-- the letters of "shards", and a zero
abbrev pub magic : List ℕ
magic = 115 ∷ 104 ∷ 97 ∷ 114 ∷ 100 ∷ 115 ∷ 0 ∷ []

-- the version of the format
abbrev pub version : List ℕ
version = 2 ∷ []

-- the magic, the version, and four numbers in four bytes each, the low one first
abbrev pub header_bytes : ℕ → ℕ → ℕ → ℕ → List ℕ
header_bytes k n number label_len = (magic ++ version) ++ (to_le_bytes w32 k ++ (to_le_bytes w32 n ++ (to_le_bytes w32 number ++ to_le_bytes w32 label_len)))

-- what piece i begins with: its header, and the label, which is what is known of the file
abbrev pub head_bytes : ℕ → ℕ → ℕ → List ℕ → List ℕ
head_bytes k n i label = header_bytes k n i (length label) ++ label
