-- How a piece spells its trailer.
use Rattle.std.specs.Prelude.{ℕ, List, ◌++◌}
use Rattle.std.specs.Int.{w64, to_le_bytes}
use Rattle.sha2.specs.Sha256.{sha256}

-- the digests of all pieces, and the file's length in eight bytes, the low one first
abbrev pub listing : List ℕ → ℕ → List ℕ
listing digests len = digests ++ to_le_bytes w64 len

-- the name of a set of pieces
abbrev pub set_name : List ℕ → ℕ → List ℕ
set_name digests len = sha256 (listing digests len)

-- the listing, and the name
abbrev pub trailer_bytes : List ℕ → ℕ → List ℕ
trailer_bytes digests len = listing digests len ++ set_name digests len
