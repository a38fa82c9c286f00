-- How long pieces are, and where they stand one after another.
use Rattle.std.specs.Prelude.{◌≡◌, ℕ, ◌+◌, ◌-◌, ◌*◌, ◌<◌, ◌≤◌, ◌^◌, List, take, drop}
use Rattle.shards_format.specs.Pieces.{blocks, body_size}

-- n pieces, any k of which give it back, can be made of a file of so many bytes whose label has so many
pub record FitPieces (k n label_len len : ℕ) : Type 0 where
  pub some : 0 < k
  pub fits : k ≤ n
  pub few : n ≤ 65536
  pub short : label_len < 65536
  pub bound : len < 2 ^ 62

-- the bytes of piece i: its header, the label, its body and its trailer
abbrev pub piece_size : ℕ → ℕ → ℕ → ℕ → ℕ → ℕ
piece_size k n i label_len len = 24 + label_len + body_size k i len + (32 * n + 40)

-- the bytes of all pieces before piece i: from piece k on each has a mark of four bytes more for every block
abbrev pub piece_start : ℕ → ℕ → ℕ → ℕ → ℕ → ℕ
piece_start k n label_len len i = i * piece_size k n 0 label_len len + (i - k) * (4 * blocks k len)

-- what stands at the place of piece i, where all pieces stand one after another
abbrev pub piece_at : ℕ → ℕ → ℕ → ℕ → ℕ → List ℕ → List ℕ
piece_at k n label_len len i run = take (piece_size k n i label_len len) (drop (piece_start k n label_len len i) run)

-- a list of so many bytes is as long as all pieces of such a file
pub record FitRun (k n label_len len size : ℕ) : Type 0 where
  pub fit : FitPieces k n label_len len
  pub size_is : size ≡ piece_start k n label_len len n
