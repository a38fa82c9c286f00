-- Files and their pieces.
use Rattle.std.specs.Prelude.{◌≡◌, ◌≢◌, ℕ, ◌*◌, ◌<◌, List, ◌++◌, length, get_or, min}
use Rattle.sha2.specs.Sha256.{sha256}
use Rattle.shards_format.specs.Stripes.{Numbering, numbers_at}
use Rattle.shards_format.specs.Parts.{IsPart}
use Rattle.shards_format.specs.Headers.{head_bytes}
use Rattle.shards_format.specs.Trailers.{trailer_bytes}
use Rattle.shards_format.specs.Pieces.{IsBody, block_size, body_size, chunk, part_size}

-- the digest at place i of a list is that of piece i of a file with a label
pub record IsListed (number : Numbering) (k n : ℕ) (label bytes digests : List ℕ) (i : ℕ) : Type 0 where
  pub body : List ℕ
  pub body_is : IsBody number k n bytes i body
  pub digest_is : chunk 32 i digests ≡ sha256 (head_bytes k n i label ++ body)

-- the digests of all pieces of a file with a label
pub record AreDigests (number : Numbering) (k n : ℕ) (label bytes digests : List ℕ) : Type 0 where
  pub count : length digests ≡ 32 * n
  pub each : (i : ℕ) → i < n → IsListed number k n label bytes digests i

-- bytes are piece i of a file with a label, whose pieces have these digests
pub record IsPiece (number : Numbering) (k n : ℕ) (label bytes digests : List ℕ) (i : ℕ) (piece : List ℕ) : Type 0 where
  pub listed : IsListed number k n label bytes digests i
  pub is : piece ≡ (head_bytes k n i label ++ listed.body) ++ trailer_bytes digests (length bytes)

-- the first b blocks of a file have their parts in a body
pub record HaveParts (number : Numbering) (k n : ℕ) (bytes : List ℕ) (i b : ℕ) (body : List ℕ) : Type 0 where
  pub len : length body ≡ body_size k i (min (b * block_size k) (length bytes))
  pub parts : (a : ℕ) → a < b → IsPart k i (numbers_at number k n (chunk (block_size k) a bytes) i) (chunk (part_size k i) a body)

-- numbers no two of which are equal
abbrev pub AreApart : List ℕ → Type 0
AreApart xs = (a b : ℕ) → a < b → b < length xs → get_or xs a 0 ≢ get_or xs b 0

-- two texts differ and have one digest
pub record Collide (left right : List ℕ) : Type 0 where
  pub differ : left ≢ right
  pub same : sha256 left ≡ sha256 right

-- a text collides with that of piece i of a file with a label
pub record CollidesWithPiece (number : Numbering) (k n : ℕ) (label bytes : List ℕ) (i : ℕ) (text : List ℕ) : Type 0 where
  pub body : List ℕ
  pub body_is : IsBody number k n bytes i body
  pub collide : Collide text (head_bytes k n i label ++ body)
