-- What a piece of a file is.
use Rattle.std.specs.Prelude.{◌≡◌, ℕ, ◌+◌, ◌-◌, ◌*◌, ◌/◌, ◌<◌, ◌^◌, List, ◌++◌, length, get_or, take, drop, nat_le, if◌then◌else◌}
use Rattle.sha2.specs.Sha256.{sha256}
use Rattle.shards_format.specs.Stripes.{Numbering, stripes, numbers_at}
use Rattle.shards_format.specs.Parts.{IsPart}
use Rattle.shards_format.specs.Headers.{header_bytes}
use Rattle.shards_format.specs.Trailers.{trailer_bytes}
use Rattle.shards_format.specs.declared.header.Header.{Header}

-- the bytes of a file that a block of 1024 stripes has
abbrev pub block_size : ℕ → ℕ
block_size k = 2 * k * 1024

-- how many blocks so many bytes are, the last one of fewer stripes
abbrev pub blocks : ℕ → ℕ → ℕ
blocks k len = (len + (block_size k - 1)) / block_size k

-- the bytes of the mark in a part of piece i
abbrev pub mark_size : ℕ → ℕ → ℕ
mark_size k i = if nat_le k i then 4 else 0

-- the bytes of a part of piece i that has 1024 numbers
abbrev pub part_size : ℕ → ℕ → ℕ
part_size k i = mark_size k i + 2048

-- the bytes of the body of piece i: two for each stripe, and those of a mark for each block
abbrev pub body_size : ℕ → ℕ → ℕ → ℕ
body_size k i len = mark_size k i * blocks k len + 2 * stripes k len

-- bytes have the length of a part of piece i with these numbers, and are this part where those of the first k pieces are items
pub record SpellsNumbers (k i : ℕ) (xs part : List ℕ) : Type 0 where
  pub size : length part ≡ mark_size k i + 2 * length xs
  pub is : (i < k → (s : ℕ) → s < length xs → get_or xs s 0 < 2 ^ 16) → IsPart k i xs part

-- chunk b of a list that is cut in chunks of so many, the last one shorter
abbrev pub chunk : ℕ → ℕ → List ℕ → List ℕ
chunk size b xs = take size (drop (b * size) xs)

-- the body of piece i of a file: for each block, the numbers of its stripes
pub record IsBody (number : Numbering) (k n : ℕ) (bytes : List ℕ) (i : ℕ) (body : List ℕ) : Type 0 where
  pub len : length body ≡ body_size k i (length bytes)
  pub parts : (b : ℕ) → b < blocks k (length bytes) → IsPart k i (numbers_at number k n (chunk (block_size k) b bytes) i) (chunk (part_size k i) b body)

-- what a piece has: between its header and its trailer a label and a body, and in the trailer the digests of all pieces
-- of its set, and the file's length
pub record Piece : Type 0 where
  pub header : Header
  pub label : List ℕ
  pub body : List ℕ
  pub digests : List ℕ
  pub len : ℕ

-- what its digest is made of
abbrev pub text_of : Piece → List ℕ
text_of p = (header_bytes p.header.k p.header.n p.header.number p.header.label_len ++ p.label) ++ p.body

-- bytes are a whole piece: its parts have their lengths, and its digest is the listed one
pub record IsWhole (bytes : List ℕ) (p : Piece) : Type 0 where
  pub is : bytes ≡ text_of p ++ trailer_bytes p.digests p.len
  pub label_len : length p.label ≡ p.header.label_len
  pub body_len : length p.body ≡ body_size p.header.k p.header.number p.len
  pub count : length p.digests ≡ 32 * p.header.n
  pub few : p.len < 2 ^ 62
  pub listed : chunk 32 p.header.number p.digests ≡ sha256 (text_of p)
