-- Lists of words of 64 bits as the numbers of a field's elements, and what a call takes of them.
use Rattle.std.specs.Prelude.{◌≡◌, ◌≢◌, ℕ, ◌+◌, ◌*◌, ◌/◌, ◌%◌, ◌<◌, List, All, length, map, slice_range}
use Rattle.ark_math.specs.Module.{itself, tabulate}
use Rattle.ark_math.specs.Transform.{value_at}
use Rattle.ark_math.specs.Words.{number_of_words}
use Rattle.ark_numbers.specs.Fields.{Known, operations}
use Rattle.ark_numbers.specs.Answers.{IsLength, coset_of, AreValues, AreInterpolated}

-- a field, and how many words spell an element
pub record Spelled : Type 0 where
  pub known : Known
  pub width : ℕ

abbrev pub in_words : ℕ → Known → Spelled
in_words width known = record { known = known; width = width }

-- the number that the words at place i spell, so many words at each place, the low word first
abbrev pub number_at : ℕ → List ℕ → ℕ → ℕ
number_at width words i = number_of_words (slice_range words (i * width) ((i + 1) * width))

-- the numbers that words spell, so many words each
abbrev pub numbers : ℕ → List ℕ → List ℕ
numbers width words = tabulate (length words / width) (number_at width words)

-- the words are some numbers and nothing else
abbrev pub AreWhole : Spelled → List ℕ → Type 0
AreWhole f words = length words % f.width ≡ 0

-- the words are one number
abbrev pub IsOne : Spelled → List ℕ → Type 0
IsOne f words = length words ≡ f.width

-- all numbers are below the modulus
abbrev pub AreReduced : Spelled → List ℕ → Type 0
AreReduced f words = All (λ x. x < f.known.modulus) (numbers f.width words)

-- ---- transforms: a list of whole numbers, and an offset of one

-- the words for a transform
abbrev pub HaveLengths : Spelled → List ℕ → List ℕ → Type 0
HaveLengths f words offset = AreWhole f words × IsOne f offset

abbrev pub HaveReduced : Spelled → List ℕ → List ℕ → Type 0
HaveReduced f words offset = AreReduced f words × (number_of_words offset < f.known.modulus)

-- a domain of the field has as many elements as there are numbers, and the offset isn't zero
abbrev pub HaveDomain : Spelled → List ℕ → List ℕ → Type 0
HaveDomain f words offset = IsLength f.known (length words / f.width) × (number_of_words offset ≢ 0)

-- all of it
abbrev pub AreTransformable : Spelled → List ℕ → List ℕ → Type 0
AreTransformable f words offset = HaveLengths f words offset × HaveReduced f words offset × HaveDomain f words offset

-- the new words spell the values of the polynomial whose coefficients the old ones spell
abbrev pub AreTransformed : Spelled → List ℕ → List ℕ → List ℕ → Type 0
AreTransformed f old offset new = AreValues f.known (coset_of f.known (length old / f.width) (number_of_words offset)) (numbers f.width old) (numbers f.width new)

-- the new words spell the coefficients of the polynomial whose values the old ones spell
abbrev pub AreTransformedBack : Spelled → List ℕ → List ℕ → List ℕ → Type 0
AreTransformedBack f old offset new = AreInterpolated f.known (coset_of f.known (length old / f.width) (number_of_words offset)) (numbers f.width old) (numbers f.width new)

-- ---- polynomials: lists of coefficients, the lowest first

-- all numbers of two lists are below the modulus
abbrev pub BothReduced : Spelled → List ℕ → List ℕ → Type 0
BothReduced f left right = AreReduced f left × AreReduced f right

-- coefficients, points, and as many values as points
abbrev pub FitValues : Spelled → List ℕ → List ℕ → List ℕ → Type 0
FitValues f coefficients points values = AreWhole f coefficients × AreWhole f points × (length values ≡ length points)

-- the new words spell the polynomial's values at the points
abbrev pub AreEvaluated : Spelled → List ℕ → List ℕ → List ℕ → Type 0
AreEvaluated f coefficients points new = numbers f.width new ≡ map (value_at (operations f.known) (itself (operations f.known)) (numbers f.width coefficients)) (numbers f.width points)
