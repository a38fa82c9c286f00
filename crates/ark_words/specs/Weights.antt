-- The weights by which the values over a domain of n elements give the value at a point: an offset, a point and n weights.
use Rattle.std.specs.Prelude.{ℕ, ◌<◌, ◌/◌, List, length}
use Rattle.ark_math_domains.specs.Points.{AreWeights}
use Rattle.ark_math.specs.Words.{number_of_words}
use Rattle.ark_numbers.specs.Fields.{operations}
use Rattle.ark_numbers.specs.Answers.{coset_of}
use Rattle.ark_words.specs.Numbers.{Spelled, numbers, AreWhole, IsOne, AreReduced}

-- offset and point are one number each
abbrev pub FitWeights : Spelled → List ℕ → List ℕ → List ℕ → Type 0
FitWeights f offset point weights = AreWhole f weights × IsOne f offset × IsOne f point

abbrev pub ArePlaced : Spelled → List ℕ → List ℕ → Type 0
ArePlaced f offset point = (number_of_words offset < f.known.modulus) × (number_of_words point < f.known.modulus)

-- the new words spell weights: times the values of a polynomial below n, in the domain's order, they sum to that at the point
abbrev pub AreLagrange : Spelled → List ℕ → List ℕ → List ℕ → Type 0
AreLagrange f offset point new =
    AreWeights (operations f.known) (coset_of f.known (length new / f.width) (number_of_words offset)) (number_of_words point) (numbers f.width new)
    × AreReduced f new
