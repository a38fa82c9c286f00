-- What contracts see of a code and of a decoder.
use Rattle.std.specs.Prelude.{◌≡◌, ℕ, ◌+◌, ◌*◌, ◌<◌, ◌≤◌, Bool, List, length}
use Rattle.ark_math.specs.Field.{FieldOn}
use Rattle.ark_math.specs.Root.{Adicity}
use Rattle.ark_math.specs.Domain.{Domain, IsDomain, element}
use Rattle.rs_code.specs.Codeword.{mark_count}
use Rattle.rs_code.specs.Locator.{AreFactors}

-- messages of at most k items, and their values at the elements of a domain
pub record CodeOver (F : Type 0) : Type 0 where
  pub domain : Domain F
  pub k : ℕ

-- a code that there is
pub record IsCode {F : Type 0} (K : FieldOn F) (s : Adicity) (root : ℕ → F) (c : CodeOver F) : Type 0 where
  pub lawful : IsDomain K s root c.domain
  pub subgroup : c.domain.offset ≡ K.one
  pub some : 0 < c.k
  pub fits : c.k ≤ c.domain.size

-- a code, and which places of its words are erased
pub record DecoderOver (F : Type 0) : Type 0 where
  pub code : CodeOver F
  pub erased : List Bool

-- the elements of e are those of d at the places 0, t, 2 * t and so on
pub record IsSpaced {F : Type 0} (K : FieldOn F) (d e : Domain F) (t : ℕ) : Type 0 where
  pub size : d.size ≡ e.size * t
  pub offset : e.offset ≡ d.offset
  pub each : (j : ℕ) → element K e j ≡ element K d (j * t)

-- a decoder that there is, with its factors for the places, and with evenly spaced elements for the items of a message
pub record IsDecoder {F : Type 0} (K : FieldOn F) (s : Adicity) (root : ℕ → F) (d : DecoderOver F) (factors : List F) (part : Domain F) (stride : ℕ) : Type 0 where
  pub code : IsCode K s root d.code
  pub len : length d.erased ≡ d.code.domain.size
  pub few : d.code.k + mark_count d.erased ≤ d.code.domain.size
  pub factors_are : AreFactors K d.code.domain d.erased factors
  pub spaced : IsSpaced K d.code.domain part stride
  pub room : d.code.k ≤ part.size
