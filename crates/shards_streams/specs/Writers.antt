-- What a clause reads of a `PieceWriter`, and what writers of pieces took.
use Rattle.std.specs.Prelude.{ℕ, List, ◌++◌}
use Rattle.std.specs.Io.KnownBytes.{Appends}
use Rattle.sha2.specs.Hashers.{Holds256}
use Rattle.ark_bytes.specs.Transfer.{AppendsBeginning}
use Rattle.ark_bytes.specs.declared.sink.Sink.{Ghosts}
use Rattle.shards_streams.specs.declared.writer.PieceWriter.{PieceWriter}

-- `writer.into_sink()`
abbrev pub piece_sink : {W : Type 0} → PieceWriter W → W
piece_sink writer = writer.sink

-- the digest that is to be written is that of this text
abbrev pub HasHashed : {W : Type 0} → PieceWriter W → List ℕ → Type 0
HasHashed writer text = Holds256 writer.hasher text

-- a writer took bytes
pub record Took {W : Type 0} (sink : Ghosts W) (old new : PieceWriter W) (bytes : List ℕ) : Type 0 where
  pub appends : Appends (sink.contents (piece_sink old)) (sink.contents (piece_sink new)) bytes
  pub hashed : (text : List ℕ) → HasHashed old text → HasHashed new (text ++ bytes)

-- a writer took a beginning of bytes
abbrev pub TookSome : {W : Type 0} → Ghosts W → PieceWriter W → PieceWriter W → List ℕ → Type 0
TookSome sink old new bytes = AppendsBeginning (sink.contents (piece_sink old)) (sink.contents (piece_sink new)) bytes
