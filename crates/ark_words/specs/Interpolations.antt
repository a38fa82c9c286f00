-- Interpolation over lists of words: n points, n values and n coefficients, the lowest first.
use Rattle.std.specs.Prelude.{◌≡◌, ℕ, ◌<◌, ◌/◌, List, All, length, map}
use Rattle.ark_math_points.specs.AtPoints.{AreDifferent, HasRepeated}
use Rattle.ark_math.specs.Module.{itself}
use Rattle.ark_math.specs.Transform.{value_at}
use Rattle.ark_numbers.specs.Fields.{operations}
use Rattle.ark_words.specs.Numbers.{Spelled, number_at, numbers, AreWhole}

abbrev pub FitInterpolation : Spelled → List ℕ → List ℕ → List ℕ → Type 0
FitInterpolation f points values coefficients = AreWhole f points × (length values ≡ length points) × (length coefficients ≡ length points)

-- no two points are equal, and two are
abbrev pub ArePointsDifferent : Spelled → List ℕ → Type 0
ArePointsDifferent f points = AreDifferent (length points / f.width) (number_at f.width points)

abbrev pub HasEqualPoints : Spelled → List ℕ → Type 0
HasEqualPoints f points = HasRepeated (length points / f.width) (number_at f.width points)

-- n numbers below the modulus, the coefficients of a polynomial with these values at these points
abbrev pub AreThrough : Spelled → List ℕ → List ℕ → List ℕ → Type 0
AreThrough f points values coefficients =
    (length coefficients ≡ length points / f.width)
    × All (λ x. x < f.known.modulus) coefficients
    × (map (value_at (operations f.known) (itself (operations f.known)) coefficients) (numbers f.width points) ≡ numbers f.width values)

-- the new words spell such coefficients, and there are no others
abbrev pub AreInterpolating : Spelled → List ℕ → List ℕ → List ℕ → Type 0
AreInterpolating f points values new =
    AreThrough f points values (numbers f.width new) × ((others : List ℕ) → AreThrough f points values others → others ≡ numbers f.width new)
