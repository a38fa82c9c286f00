-- What the writers of all pieces took.
use Rattle.std.specs.Prelude.{◌≡◌, ℕ, ◌<◌, ◌≤◌, ◌^◌, ◌⊎◌, List, ◌++◌, length, get_or, Option}
use Rattle.std.specs.Io.KnownBytes.{Consumes, IsAtEnd}
use Rattle.ark_bytes.specs.declared.sink.Sink.{Ghosts}
use Rattle.ark_bytes.specs.Reading.{SourceState, Takes}
use Rattle.shards_format.specs.Stripes.{Numbering, numbers_at}
use Rattle.shards_format.specs.Parts.{IsPart}
use Rattle.shards_format.specs.Pieces.{IsBody, block_size}
use Rattle.shards_format.specs.Files.{AreDigests}
use Rattle.shards_streams.specs.declared.writer.PieceWriter.{PieceWriter}
use Rattle.shards_streams.specs.Writers.{piece_sink, Took, TookSome}
use Rattle.shards_streams.specs.Streams.{TookPiece, TookBeginning}

module _ {W : Type 0} (sink : Ghosts W) (number : Numbering) (k n : ℕ) where
  -- writer i took the part of a block at place i
  pub record TookPart (block : List ℕ) (i : ℕ) (old new : PieceWriter W) : Type 0 where
    pub part : List ℕ
    pub is : IsPart k i (numbers_at number k n block i) part
    pub took : Took sink old new part

  pub record TookPartSome (block : List ℕ) (i : ℕ) (old new : PieceWriter W) : Type 0 where
    pub part : List ℕ
    pub is : IsPart k i (numbers_at number k n block i) part
    pub took : TookSome sink old new part

  -- writer i took the body of piece i of these bytes
  pub record TookBody (bytes : List ℕ) (i : ℕ) (old new : PieceWriter W) : Type 0 where
    pub body : List ℕ
    pub is : IsBody number k n bytes i body
    pub took : Took sink old new body

  pub record TookBodySome (bytes : List ℕ) (i : ℕ) (old new : PieceWriter W) : Type 0 where
    pub body : List ℕ
    pub is : IsBody number k n bytes i body
    pub took : TookSome sink old new body

  -- each writer took its part of a block
  abbrev pub TookParts : List ℕ → List (PieceWriter W) → List (PieceWriter W) → Type 0
  TookParts block old new = (i : ℕ) (d : PieceWriter W) → i < n → TookPart block i (get_or old i d) (get_or new i d)

  -- each writer took a beginning of its part of a block
  abbrev pub TookPartsSome : List ℕ → List (PieceWriter W) → List (PieceWriter W) → Type 0
  TookPartsSome block old new = (i : ℕ) (d : PieceWriter W) → i < n → TookPartSome block i (get_or old i d) (get_or new i d)

  -- a block of so many bytes was read, fewer than a whole one only at the end, and each writer took its part, if there was any
  pub record TookBlock (count : ℕ) (before after : SourceState) (old new : List (PieceWriter W)) : Type 0 where
    pub block : List ℕ
    pub len_is : length block ≡ count
    pub takes : Takes before after block
    pub end : count < block_size k → IsAtEnd after.remaining
    pub parts : 0 < count → TookParts block old new
    pub none : count ≡ 0 → new ≡ old

  -- some bytes were read, and each writer took a beginning of its part of these, or nothing
  pub record TookBlockSome (before after : Option (List ℕ)) (old new : List (PieceWriter W)) : Type 0 where
    pub block : List ℕ
    pub consumes : Consumes before after block
    pub parts : (new ≡ old) ⊎ ((0 < length block) × (length block ≤ block_size k) × TookPartsSome block old new)

  -- all bytes that were left were read, so many, and each writer took its body of them
  pub record TookBodies (len : ℕ) (before after : SourceState) (old new : List (PieceWriter W)) : Type 0 where
    pub bytes : List ℕ
    pub len_is : length bytes ≡ len
    pub few : len < 2 ^ 62
    pub takes : Takes before after bytes
    pub end : IsAtEnd after.remaining
    pub each : (i : ℕ) (d : PieceWriter W) → i < n → TookBody bytes i (get_or old i d) (get_or new i d)

  -- some bytes were read, and each writer took a beginning of its body of these or of their beginning
  pub record TookBodiesSome (before after : Option (List ℕ)) (old new : List (PieceWriter W)) : Type 0 where
    pub read : List ℕ
    pub more : List ℕ
    pub consumes : Consumes before after (read ++ more)
    pub each : (i : ℕ) (d : PieceWriter W) → i < n → TookBodySome read i (get_or old i d) (get_or new i d)

  -- all bytes that were left were read, and each sink took the piece of them at its place
  pub record HasSplit (label digests : List ℕ) (len : ℕ) (before after : SourceState) (old new : List (PieceWriter W)) : Type 0 where
    pub bytes : List ℕ
    pub len_is : length bytes ≡ len
    pub few : len < 2 ^ 62
    pub takes : Takes before after bytes
    pub end : IsAtEnd after.remaining
    pub digests_are : AreDigests number k n label bytes digests
    pub each : (i : ℕ) (d : PieceWriter W) → i < n
        → TookPiece number k n label bytes digests i (sink.contents (piece_sink (get_or old i d))) (sink.contents (piece_sink (get_or new i d)))

  -- some bytes were read, and each sink took a beginning of its piece of these or of their beginning
  pub record HasBegun (label : List ℕ) (before after : Option (List ℕ)) (old new : List (PieceWriter W)) : Type 0 where
    pub read : List ℕ
    pub more : List ℕ
    pub consumes : Consumes before after (read ++ more)
    pub each : (i : ℕ) (d : PieceWriter W) → i < n
        → TookBeginning number k n label read i (sink.contents (piece_sink (get_or old i d))) (sink.contents (piece_sink (get_or new i d)))
