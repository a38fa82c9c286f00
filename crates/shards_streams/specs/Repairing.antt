-- What the writers of lost pieces took.
use Rattle.std.specs.Prelude.{◌≡◌, ◌≢◌, ℕ, ◌<◌, List, ◌++◌, length, get_or, Option}
use Rattle.std.specs.Io.KnownBytes.{Appends}
use Rattle.sha2.specs.Sha256.{sha256}
use Rattle.ark_bytes.specs.declared.source.Source.{Ghosts}
use Rattle.ark_bytes.specs.declared.sink.Sink.{Ghosts as SinkGhosts}
use Rattle.shards_format.specs.Stripes.{Numbering}
use Rattle.shards_format.specs.Headers.{head_bytes}
use Rattle.shards_format.specs.Trailers.{trailer_bytes}
use Rattle.shards_format.specs.Pieces.{IsBody, body_size, chunk}
use Rattle.shards_format.specs.Files.{AreDigests, CollidesWithPiece}
use Rattle.shards_streams.specs.declared.error.StreamError.{StreamError}
use Rattle.shards_streams.specs.declared.error.StreamError.TheVariants.{Damaged, Forged}
use Rattle.shards_streams.specs.declared.reader.PieceReader.{PieceReader}
use Rattle.shards_streams.specs.declared.writer.PieceWriter.{PieceWriter}
use Rattle.shards_streams.specs.Readers.{HasRead}
use Rattle.shards_streams.specs.Writers.{Took}
use Rattle.shards_streams.specs.Joining.{GaveBody, HaveBodies}

-- a sink took the piece at this place, by its digest: header and label, a body, and the trailer
pub record TookListed (k n : ℕ) (label digests : List ℕ) (len place : ℕ) (old new : Option (List ℕ)) : Type 0 where
  pub body : List ℕ
  pub len_is : length body ≡ body_size k place len
  pub listed : chunk 32 place digests ≡ sha256 (head_bytes k n place label ++ body)
  pub appends : Appends old new ((head_bytes k n place label ++ body) ++ trailer_bytes digests len)

-- a sink took a piece by its digest, behind a label of its own, that collides with the file's piece at this place
pub record TookCollision (number : Numbering) (k n : ℕ) (own label bytes digests : List ℕ) (place : ℕ) (old new : Option (List ℕ)) : Type 0 where
  pub took : TookListed k n own digests (length bytes) place old new
  pub collides : CollidesWithPiece number k n label bytes place (head_bytes k n place own ++ took.body)

-- the trailer has the digests of a file's pieces with this label, and each reader has read the head of its piece and has the body left
pub record HaveFilePieces {R : Type 0} (source : Ghosts R) (number : Numbering) (k n : ℕ) (places label digests : List ℕ) (len : ℕ) (readers : List (PieceReader R)) : Type 0 where
  pub bytes : List ℕ
  pub small : (i : ℕ) → get_or bytes i 0 < 256
  pub len_is : length bytes ≡ len
  pub digests_are : AreDigests number k n label bytes digests
  pub heads : (a : ℕ) (d : PieceReader R) → a < k → HasRead (get_or readers a d) (head_bytes k n (get_or places a 0) label)
  pub bodies : HaveBodies source number k n bytes places readers

-- an error that tells of no damage
abbrev pub TellsNoDamage : StreamError → Type 0
TellsNoDamage e = (e ≢ Forged) × ((a : ℕ) → e ≢ Damaged a)

-- writer b took as many bytes as the body of the piece at this place has
pub record TookSized {W : Type 0} (sink : SinkGhosts W) (k place len b : ℕ) (old new : List (PieceWriter W)) : Type 0 where
  pub body : List ℕ
  pub len_is : length body ≡ body_size k place len
  pub took : (d : PieceWriter W) → Took sink (get_or old b d) (get_or new b d) body

-- each reader gave a body, and each writer took one; where the former are those of a file's pieces, the latter are so too
pub record HasRemade {R W : Type 0} (source : Ghosts R) (sink : SinkGhosts W) (number : Numbering) (k n : ℕ) (places lost : List ℕ) (len : ℕ) (old new : List (PieceReader R))
    (before after : List (PieceWriter W)) : Type 0 where
  pub given : (a : ℕ) → a < k → GaveBody source k (get_or places a 0) len a old new
  pub made : (b : ℕ) → b < length lost → TookSized sink k (get_or lost b 0) len b before after
  pub file : (bytes : List ℕ) → ((i : ℕ) → get_or bytes i 0 < 256) → length bytes ≡ len → ((a : ℕ) (l : a < k) → IsBody number k n bytes (get_or places a 0) (given a l).body)
      → (b : ℕ) (l : b < length lost) → IsBody number k n bytes (get_or lost b 0) (made b l).body
