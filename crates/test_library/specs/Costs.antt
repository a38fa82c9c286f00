-- What a transform costs, as numbers.
use Rattle.std.specs.Prelude.{◌≡◌, ℕ, Some}
use Rattle.ark_math.specs.Root.{Adicity}
use Rattle.ark_math.specs.Domain.{Kind}
use Rattle.ark_math.specs.Cost.{Direction, GoesBy}

-- a transform of a list of this length over n places goes by so many butterflies and steps, and by no other numbers
pub record Costs (s : Adicity) (kind : Kind) (n len : ℕ) (direction : Direction) (butterflies steps : ℕ) : Type 0 where
  pub goes_by : GoesBy s kind n len direction butterflies steps
  pub only : (b t : ℕ) → GoesBy s kind n len direction b t → (b ≡ butterflies) × (t ≡ steps)

-- the sizes of the field of 433 elements: up to four factors of two and three of three
abbrev pub sizes_433 : Adicity
sizes_433 = record { two = 4; odd = Some (3, 3) }

-- the sizes of the field of four elements: one and three
abbrev pub sizes_4 : Adicity
sizes_4 = record { two = 0; odd = Some (3, 1) }
