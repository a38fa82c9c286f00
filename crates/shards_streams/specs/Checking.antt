-- What sources gave of a piece.
use Rattle.std.specs.Prelude.{◌≡◌, ℕ, ◌*◌, ◌<◌, ◌^◌, List, ◌++◌, length, Some}
use Rattle.std.specs.Io.KnownBytes.{IsAtEnd}
use Rattle.ark_bytes.specs.Reading.{SourceState, Takes}
use Rattle.shards_format.specs.Headers.{header_bytes}
use Rattle.shards_format.specs.Trailers.{trailer_bytes}
use Rattle.shards_format.specs.Pieces.{IsWhole, Piece}
use Rattle.shards_format.specs.declared.header.Header.{Header}

-- a source gave a whole piece of so many bytes, all that it had
pub record GavePiece (header : Header) (label digests : List ℕ) (len size : ℕ) (old new : SourceState) : Type 0 where
  pub bytes : List ℕ
  pub body : List ℕ
  pub whole : IsWhole bytes (record { header = header; label = label; body = body; digests = digests; len = len })
  pub size_is : length bytes ≡ size
  pub takes : Takes old new bytes
  pub end : IsAtEnd new.remaining

-- it gave all of it but header and label
pub record GaveRest (header : Header) (label digests : List ℕ) (len size : ℕ) (old new : SourceState) : Type 0 where
  pub bytes : List ℕ
  pub body : List ℕ
  pub whole : IsWhole ((header_bytes header.k header.n header.number header.label_len ++ label) ++ bytes)
      (record { header = header; label = label; body = body; digests = digests; len = len })
  pub size_is : length ((header_bytes header.k header.n header.number header.label_len ++ label) ++ bytes) ≡ size
  pub takes : Takes old new bytes
  pub end : IsAtEnd new.remaining

-- the bytes that a source has left are no whole piece of so many bytes, or a call of it failed
abbrev pub LacksPiece : ℕ → SourceState → SourceState → Type 0
LacksPiece size old new = (bytes : List ℕ) (p : Piece) → IsWhole bytes p → length bytes ≡ size → old.remaining ≡ Some bytes → old.failures < new.failures

-- they are not the rest of one that begins with this header and label
abbrev pub LacksRest : Header → List ℕ → ℕ → SourceState → SourceState → Type 0
LacksRest header label size old new = (bytes : List ℕ) (p : Piece) → IsWhole ((header_bytes header.k header.n header.number header.label_len ++ label) ++ bytes) p
    → length ((header_bytes header.k header.n header.number header.label_len ++ label) ++ bytes) ≡ size → old.remaining ≡ Some bytes → old.failures < new.failures

-- they don't begin with a header and a label
abbrev pub LacksHeader : SourceState → SourceState → Type 0
LacksHeader old new = (header : Header) (label rest : List ℕ) → length label ≡ header.label_len
    → old.remaining ≡ Some ((header_bytes header.k header.n header.number header.label_len ++ label) ++ rest) → old.failures < new.failures

-- they are not the trailer of one of n pieces
abbrev pub LacksTrailer : ℕ → SourceState → SourceState → Type 0
LacksTrailer n old new = (digests : List ℕ) (len : ℕ) → length digests ≡ 32 * n → len < 2 ^ 62 → old.remaining ≡ Some (trailer_bytes digests len) → old.failures < new.failures
