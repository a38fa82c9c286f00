-- Readers of the pieces that a list of bytes begins with.
use Rattle.std.specs.Prelude.{◌≡◌, ℕ, ◌+◌, ◌<◌, List, [], ◌++◌, length, get_or}
use denote.Ref.{Bor}
use Rattle.shards_streams.specs.declared.reader.PieceReader.{PieceReader}
use Rattle.shards_streams.specs.Readers.{piece_source}
use Rattle.shards_streams.specs.Laws.{HasPassed}
use Rattle.shards_buffers.specs.Runs.{IsSized, concat}

-- a reader has read the header and the label of a piece
pub record HasOpened (k n len i : ℕ) (piece : List ℕ) (reader : PieceReader (Bor (List ℕ))) : Type 0 where
  pub label_len : ℕ
  pub sized : IsSized k n len i label_len piece
  pub passed : HasPassed piece (24 + label_len) reader (piece_source reader).now

-- bytes begin with m pieces at these places, each has its reader, and these bytes are left
pub record HaveOpened (k n len m : ℕ) (run left places : List ℕ) (readers : List (PieceReader (Bor (List ℕ)))) : Type 0 where
  pub as_many : length places ≡ m
  pub all : length readers ≡ m
  pub pieces : List (List ℕ)
  pub count : length pieces ≡ m
  pub each : (a : ℕ) (d : PieceReader (Bor (List ℕ))) → a < m → HasOpened k n len (get_or places a 0) (get_or pieces a []) (get_or readers a d)
  pub is : run ≡ concat pieces ++ left
