-- What sources have of pieces, and what a sink took of their file.
use Rattle.std.specs.Prelude.{◌≡◌, ℕ, ◌<◌, ◌+◌, ◌*◌, List, ◌++◌, length, get_or, Option, Some}
use Rattle.std.specs.Io.KnownBytes.{Appends}
use Rattle.sha2.specs.Sha256.{sha256}
use Rattle.ark_bytes.specs.declared.source.Source.{Ghosts}
use Rattle.ark_bytes.specs.Reading.{Takes}
use Rattle.shards_format.specs.Stripes.{Numbering}
use Rattle.shards_format.specs.Headers.{head_bytes}
use Rattle.shards_format.specs.Parts.{number_in}
use Rattle.shards_format.specs.Pieces.{IsBody, body_size, chunk, mark_size}
use Rattle.shards_format.specs.Files.{CollidesWithPiece}
use Rattle.shards_streams.specs.declared.reader.PieceReader.{PieceReader}
use Rattle.shards_streams.specs.Readers.{Gave, HasRead, reader_state}

-- each reader has read the header of the piece at its place, and a label
abbrev pub HaveHeads : {R : Type 0} → ℕ → ℕ → List ℕ → List (PieceReader R) → Type 0
HaveHeads {R = R} k n places readers = (a : ℕ) (d : PieceReader R) → a < k
    → (label : List ℕ) × (length label < 65536) × HasRead (get_or readers a d) (head_bytes k n (get_or places a 0) label)

-- the bytes that are left of a piece are the body of piece i of a file, and maybe more after it
pub record HasBody (number : Numbering) (k n : ℕ) (bytes : List ℕ) (i : ℕ) (remaining : Option (List ℕ)) : Type 0 where
  pub body : List ℕ
  pub rest : List ℕ
  pub is : remaining ≡ Some (body ++ rest)
  pub body_is : IsBody number k n bytes i body

module _ {R : Type 0} (source : Ghosts R) where
  -- each reader has the body of the file's piece at its place
  abbrev pub HaveBodies : Numbering → ℕ → ℕ → List ℕ → List ℕ → List (PieceReader R) → Type 0
  HaveBodies number k n bytes places readers = (a : ℕ) (d : PieceReader R) → a < k → HasBody number k n bytes (get_or places a 0) (reader_state source (get_or readers a d)).remaining

  -- a reader gave a part of the piece at this place, whose numbers are row a of these
  pub record GavePart (k place count : ℕ) (numbers : List ℕ) (a : ℕ) (old new : PieceReader R) : Type 0 where
    pub part : List ℕ
    pub len : length part ≡ mark_size k place + 2 * count
    pub gave : Gave source old new part
    pub row : (s : ℕ) → s < count → get_or numbers (a * count + s) 0 ≡ number_in k place part s

  -- reader a gave as many bytes as the body of the piece at its place has
  pub record GaveBody (k place len a : ℕ) (old new : List (PieceReader R)) : Type 0 where
    pub body : List ℕ
    pub len_is : length body ≡ body_size k place len
    pub gave : (d : PieceReader R) → Gave source (get_or old a d) (get_or new a d) body

  -- a reader gave a body that, behind the header and the label that it had read, collides with the file's piece at its place
  pub record GaveCollision (number : Numbering) (k n : ℕ) (label bytes places : List ℕ) (old new : List (PieceReader R)) (heads : HaveHeads k n places old) : Type 0 where
    pub a : ℕ
    pub d : PieceReader R
    pub inside : a < k
    pub body : List ℕ
    pub len_is : length body ≡ body_size k (get_or places a 0) (length bytes)
    pub takes : Takes (reader_state source (get_or old a d)) (reader_state source (get_or new a d)) body
    pub collides : CollidesWithPiece number k n label bytes (get_or places a 0) (head_bytes k n (get_or places a 0) (heads a d inside).0 ++ body)

  -- each reader gave a body; where these are the bodies of a file's pieces, the sink took this file
  pub record HasRestored (number : Numbering) (k n : ℕ) (places : List ℕ) (len : ℕ) (old new : List (PieceReader R)) (before after : Option (List ℕ)) : Type 0 where
    pub each : (a : ℕ) → a < k → GaveBody k (get_or places a 0) len a old new
    pub written : List ℕ
    pub written_len : length written ≡ len
    pub appends : Appends before after written
    pub file : (bytes : List ℕ) → ((i : ℕ) → get_or bytes i 0 < 256) → length bytes ≡ len
        → ((a : ℕ) (l : a < k) → IsBody number k n bytes (get_or places a 0) (each a l).body) → written ≡ bytes

  -- what reader a had read, with the body that it gave, has the digest of its place
  pub record GaveListed (k place len : ℕ) (digests : List ℕ) (a : ℕ) (old : List (PieceReader R)) : Type 0 where
    pub body : List ℕ
    pub len_is : length body ≡ body_size k place len
    pub listed : (d : PieceReader R) (head : List ℕ) → HasRead (get_or old a d) head → chunk 32 place digests ≡ sha256 (head ++ body)

  -- each reader gave a body with the digest of its place; where these are the bodies of a file's pieces, the sink took this file
  pub record HasJoined (number : Numbering) (k n : ℕ) (places digests : List ℕ) (len : ℕ) (old : List (PieceReader R)) (before after : Option (List ℕ)) : Type 0 where
    pub each : (a : ℕ) → a < k → GaveListed k (get_or places a 0) len digests a old
    pub written : List ℕ
    pub written_len : length written ≡ len
    pub appends : Appends before after written
    pub file : (bytes : List ℕ) → ((i : ℕ) → get_or bytes i 0 < 256) → length bytes ≡ len
        → ((a : ℕ) (l : a < k) → IsBody number k n bytes (get_or places a 0) (each a l).body) → written ≡ bytes
