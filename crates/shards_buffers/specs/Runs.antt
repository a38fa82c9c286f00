-- Pieces of a file in one list of bytes.
use Rattle.std.specs.Prelude.{◌≡◌, ◌≢◌, ℕ, ◌+◌, ◌-◌, ◌*◌, ◌<◌, ◌≤◌, ◌^◌, List, [], ◌++◌, length, take, get_or, flat_map}
use Rattle.sha2.specs.Sha256.{sha256}
use Rattle.shards_format.specs.Stripes.{Numbering}
use Rattle.shards_format.specs.Headers.{header_bytes}
use Rattle.shards_format.specs.Trailers.{trailer_bytes}
use Rattle.shards_format.specs.Pieces.{chunk}
use Rattle.shards_format.specs.Files.{AreApart, AreDigests, CollidesWithPiece, IsPiece}
use Rattle.shards_streams.specs.declared.writer.PieceWriter.{PieceWriter}
use Rattle.shards_streams.specs.declared.laws.ListSink.{ListSink}
use Rattle.shards_streams.specs.Writers.{piece_sink}
use Rattle.shards_buffers.specs.Sizes.{piece_at, piece_size}

-- what a sink in memory took of a piece
abbrev pub contents_of : PieceWriter ListSink → List ℕ
contents_of writer = (piece_sink writer).bytes.items

-- lists one after another
abbrev pub concat : List (List ℕ) → List ℕ
concat lists = flat_map (λ xs. xs) lists

-- all n pieces of a file with a label, each at its place
pub record AreAllPieces (number : Numbering) (k n : ℕ) (label bytes run : List ℕ) : Type 0 where
  pub digests : List ℕ
  pub digests_are : AreDigests number k n label bytes digests
  pub each : (i : ℕ) → i < n → IsPiece number k n label bytes digests i (piece_at k n (length label) (length bytes) i run)

-- the pieces at these places of a file with a label, one after another
pub record ArePieces (number : Numbering) (k n : ℕ) (label bytes digests places run : List ℕ) : Type 0 where
  pub pieces : List (List ℕ)
  pub count : length pieces ≡ length places
  pub each : (a : ℕ) → a < length places → IsPiece number k n label bytes digests (get_or places a 0) (get_or pieces a [])
  pub is : run ≡ concat pieces

-- a file and its label: bytes, and no more of them than pieces can be made of
pub record IsFile (label bytes : List ℕ) : Type 0 where
  pub small : (i : ℕ) → get_or bytes i 0 < 256
  pub short : length label < 65536
  pub bound : length bytes < 2 ^ 62

-- at least k pieces of a file with a label, at places that differ, one after another
pub record AreEnough (number : Numbering) (k n : ℕ) (label bytes run : List ℕ) : Type 0 where
  pub file : IsFile label bytes
  pub digests : List ℕ
  pub digests_are : AreDigests number k n label bytes digests
  pub places : List ℕ
  pub enough : k ≤ length places
  pub below : (a : ℕ) → a < length places → get_or places a 0 < n
  pub apart : AreApart places
  pub are : ArePieces number k n label bytes digests places run

-- bytes end with the trailer of n pieces of a file of so many
pub record HasTrailer (n : ℕ) (digests : List ℕ) (len : ℕ) (run : List ℕ) : Type 0 where
  pub count : length digests ≡ 32 * n
  pub few : len < 2 ^ 62
  pub front : List ℕ
  pub is : run ≡ front ++ trailer_bytes digests len

-- bytes end with the trailer of a file's pieces
pub record EndAsPieces (number : Numbering) (k n : ℕ) (label bytes run : List ℕ) : Type 0 where
  pub file : IsFile label bytes
  pub digests : List ℕ
  pub digests_are : AreDigests number k n label bytes digests
  pub trailer : HasTrailer n digests (length bytes) run

-- bytes begin with the header of piece i, and are as many as it has of a file of so many
pub record IsSized (k n len i label_len : ℕ) (piece : List ℕ) : Type 0 where
  pub below : i < n
  pub short : label_len < 65536
  pub behind : List ℕ
  pub is : piece ≡ header_bytes k n i label_len ++ behind
  pub size : length piece ≡ piece_size k n i label_len len

-- bytes begin with k pieces at places that differ, by their headers and lengths
pub record AreSized (k n len : ℕ) (run : List ℕ) : Type 0 where
  pub places : List ℕ
  pub enough : length places ≡ k
  pub apart : AreApart places
  pub pieces : List (List ℕ)
  pub count : length pieces ≡ k
  pub each : (a : ℕ) → a < k → (label_len : ℕ) × IsSized k n len (get_or places a 0) label_len (get_or pieces a [])
  pub behind : List ℕ
  pub is : run ≡ concat pieces ++ behind

-- what the digest of one of n pieces is made of: all but its trailer
abbrev pub without_trailer : ℕ → List ℕ → List ℕ
without_trailer n piece = take (length piece - (32 * n + 40)) piece

-- bytes begin with k such pieces, of which one has not its digest of these
pub record HasDamage (k n len : ℕ) (digests run : List ℕ) : Type 0 where
  pub sized : AreSized k n len run
  pub a : ℕ
  pub inside : a < k
  pub differs : chunk 32 (get_or sized.places a 0) digests ≢ sha256 (without_trailer n (get_or sized.pieces a []))

-- bytes begin with k such pieces, of which one collides with the file's piece at its place
pub record HasCollision (number : Numbering) (k n : ℕ) (label bytes run : List ℕ) : Type 0 where
  pub sized : AreSized k n (length bytes) run
  pub a : ℕ
  pub inside : a < k
  pub collides : CollidesWithPiece number k n label bytes (get_or sized.places a 0) (without_trailer n (get_or sized.pieces a []))
