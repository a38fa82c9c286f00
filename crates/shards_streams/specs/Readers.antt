-- What a clause reads of a `PieceReader`, and what readers of pieces gave.
use Rattle.std.specs.Prelude.{ℕ, List, ◌++◌}
use Rattle.sha2.specs.Hashers.{Holds256}
use Rattle.ark_bytes.specs.declared.source.Source.{Ghosts}
use Rattle.ark_bytes.specs.Reading.{SourceState, Takes, source_state}
use Rattle.shards_streams.specs.declared.reader.PieceReader.{PieceReader}

-- `reader.into_source()`
abbrev pub piece_source : {R : Type 0} → PieceReader R → R
piece_source reader = reader.source

-- the bytes that are left of a piece, and how often reading it failed
abbrev pub reader_state : {R : Type 0} → Ghosts R → PieceReader R → SourceState
reader_state source reader = source_state source.remaining source.failures (piece_source reader)

-- the digest is that of this text
abbrev pub HasRead : {R : Type 0} → PieceReader R → List ℕ → Type 0
HasRead reader text = Holds256 reader.hasher text

-- a reader gave bytes
pub record Gave {R : Type 0} (source : Ghosts R) (old new : PieceReader R) (bytes : List ℕ) : Type 0 where
  pub takes : Takes (reader_state source old) (reader_state source new) bytes
  pub hashed : (text : List ℕ) → HasRead old text → HasRead new (text ++ bytes)
