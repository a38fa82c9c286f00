-- Words of the private steps.
use Rattle.std.specs.Prelude.{◌≡◌, ℕ, ◌<◌, List, length}
use Rattle.ark_math.specs.Field.{FieldOn, power}
use Rattle.ark_math_points.specs.AtPoints.{x_of, y_of}

-- a at c * x, as a polynomial in x
abbrev pub at_multiple : {F : Type 0} → FieldOn F → F → (ℕ → F) → ℕ → F
at_multiple K c a i = K.times (power K c i) (a i)

-- the x of each pair times c, and its y
pub record ArePairsMoved {F : Type 0} (K : FieldOn F) (c : F) (pairs moved : List (F × F)) : Type 0 where
  pub len : length moved ≡ length pairs
  pub x : (i : ℕ) → i < length pairs → x_of K moved i ≡ K.times (x_of K pairs i) c
  pub y : (i : ℕ) → i < length pairs → y_of K moved i ≡ y_of K pairs i
