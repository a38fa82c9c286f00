-- How numbers at wanted places are found from those at given ones.
use Rattle.std.specs.Prelude.{◌≡◌, ℕ, ◌+◌, ◌*◌, ◌<◌, ◌≤◌, List, length, get_or}
use Rattle.ark_math.specs.Field.{natural}
use Rattle.ark_math.specs.Module.{sum_below, itself}
use Rattle.ark_math.specs.Univariate.{IsBelow, value_below}
use Rattle.rs_code.specs.Code.{CodeOver, DecoderOver}
use Rattle.shards_lib.specs.Numbers.{Numbered, place_element}
use Rattle.shards_lib.specs.Places.{AreKept}

-- the weights from a start on, one for each given place, by which the values of a polynomial there give that at another place, for every polynomial with fewer coefficients than these
abbrev pub GiveAt : {F : Type 0} → Numbered F → ℕ → List ℕ → List ℕ → ℕ → ℕ → Type 0
GiveAt {F} s n given weights start place = (a : ℕ → F) → IsBelow s.field (length given) a →
    sum_below (itself s.field) (length given) (λ c. s.field.times (natural s.field (get_or weights (start + c) 0)) (value_below s.field (length given) a (place_element s.field s.root n (get_or given c 0))))
    ≡ value_below s.field (length given) a (place_element s.field s.root n place)

-- the weights of the given places in the wanted ones, those in the first of these first
pub record AreWeights {F : Type 0} (s : Numbered F) (n : ℕ) (given wanted weights : List ℕ) : Type 0 where
  pub len : length weights ≡ length wanted * length given
  pub few : length given ≤ 1024
  pub fit : (p : ℕ) → get_or weights p 0 ≤ 65536
  pub give : (b : ℕ) → b < length wanted → GiveAt s n given weights (b * length given) (get_or wanted b 0)

-- a decoder for words of the code of which as many places are kept as a stripe has items, and the weights of these in the wanted places, if there are any
pub record IsExtender {F : Type 0} (s : Numbered F) (code : CodeOver F) (n : ℕ) (decoder : DecoderOver F) (given wanted weights : List ℕ) : Type 0 where
  pub code_is : decoder.code ≡ code
  pub kept : AreKept code.domain.size decoder.erased given
  pub as_many : length given ≡ code.k
  pub given_below : (a : ℕ) → a < length given → get_or given a 0 < n
  pub wanted_below : (b : ℕ) → b < length wanted → get_or wanted b 0 < n
  pub weighted : 0 < length weights → AreWeights s n given wanted weights
