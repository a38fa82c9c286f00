-- The library's decoder for words with places lost.
use Rattle.std.specs.Prelude.{◌≡◌, ℕ, ◌==◌, not, Bool, List, length, map}
use Rattle.ark_math.specs.Field.{FieldOn}
use Rattle.ark_math.specs.Root.{Adicity}
use Rattle.ark_math.specs.Domain.{IsDomain}
use Rattle.rs_code.specs.Code.{DecoderOver}

-- which places are lost
abbrev pub marks : List ℕ → List Bool
marks erased = map (λ byte. not (byte == 0)) erased

-- a decoder for words of which these places are lost
pub record IsDecoderFor {F : Type 0} (K : FieldOn F) (s : Adicity) (root : ℕ → F) (erased : List ℕ) (d : DecoderOver F) : Type 0 where
  pub lawful : IsDomain K s root d.code.domain
  pub subgroup : d.code.domain.offset ≡ K.one
  pub size : d.code.domain.size ≡ length erased
  pub marked : d.erased ≡ marks erased
