-- What is in memory of pieces.
use Rattle.std.specs.Prelude.{◌≡◌, ℕ, ◌<◌, List, ◌++◌, length, get_or}
use Rattle.shards_format.specs.Stripes.{Numbering}
use Rattle.shards_format.specs.Files.{IsPiece}
use Rattle.shards_streams.specs.declared.writer.PieceWriter.{PieceWriter}
use Rattle.shards_streams.specs.declared.reader.PieceReader.{PieceReader}
use Rattle.shards_streams.specs.declared.laws.ListSink.{ListSink}
use Rattle.shards_streams.specs.Writers.{piece_sink}
use Rattle.shards_streams.specs.Readers.{HasRead}

-- each writer took the piece at its place
abbrev pub HavePieces : Numbering → ℕ → ℕ → List ℕ → List ℕ → List ℕ → List (PieceWriter ListSink) → Type 0
HavePieces number k n label bytes digests writers = (i : ℕ) (w : PieceWriter ListSink) → i < n
    → IsPiece number k n label bytes digests i (piece_sink (get_or writers i w)).bytes.items

-- a reader has read the first so many of these bytes, and has the others left
pub record HasPassed {R : Type 0} (bytes : List ℕ) (size : ℕ) (reader : PieceReader R) (left : List ℕ) : Type 0 where
  pub head : List ℕ
  pub len : length head ≡ size
  pub read : HasRead reader head
  pub is : bytes ≡ head ++ left
