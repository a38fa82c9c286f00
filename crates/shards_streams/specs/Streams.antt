-- What sources gave and sinks took of a file and its pieces.
use Rattle.std.specs.Prelude.{◌≡◌, ℕ, ◌≤◌, ◌^◌, ◌⊎◌, List, [], ◌++◌, length, Option}
use Rattle.std.specs.Io.KnownBytes.{Appends, Consumes}
use Rattle.ark_bytes.specs.Transfer.{AppendsBeginning}
use Rattle.ark_bytes.specs.Reading.{SourceState, Takes}
use Rattle.shards_format.specs.Stripes.{Numbering}
use Rattle.shards_format.specs.Headers.{head_bytes}
use Rattle.shards_format.specs.Trailers.{trailer_bytes}
use Rattle.shards_format.specs.Pieces.{IsBody}
use Rattle.shards_format.specs.Files.{AreDigests, IsPiece}

-- some bytes were taken of a source
pub record GaveSome (old new : Option (List ℕ)) : Type 0 where
  pub taken : List ℕ
  pub consumes : Consumes old new taken

-- a source gave too many bytes for a file
pub record GaveLong (old new : SourceState) : Type 0 where
  pub bytes : List ℕ
  pub many : 2 ^ 62 ≤ length bytes
  pub takes : Takes old new bytes

-- a sink took piece i of a file
pub record TookPiece (number : Numbering) (k n : ℕ) (label bytes digests : List ℕ) (i : ℕ) (old new : Option (List ℕ)) : Type 0 where
  pub piece : List ℕ
  pub is : IsPiece number k n label bytes digests i piece
  pub appends : Appends old new piece

-- what a piece ends with, where only these bytes of the file were read: nothing yet, or their trailer
abbrev pub IsEnd : Numbering → ℕ → ℕ → List ℕ → List ℕ → List ℕ → Type 0
IsEnd number k n label read end = (end ≡ []) ⊎ ((digests : List ℕ) × AreDigests number k n label read digests × (end ≡ trailer_bytes digests (length read)))

-- a sink took a beginning of piece i, where only these bytes of the file were read
pub record TookBeginning (number : Numbering) (k n : ℕ) (label read : List ℕ) (i : ℕ) (old new : Option (List ℕ)) : Type 0 where
  pub body : List ℕ
  pub end : List ℕ
  pub body_is : IsBody number k n read i body
  pub end_is : IsEnd number k n label read end
  pub begins : AppendsBeginning old new ((head_bytes k n i label ++ body) ++ end)
