-- Products and quotients of polynomials over lists of words, each list their coefficients, the lowest first.
use Rattle.std.specs.Prelude.{◌≡◌, ℕ, ◌+◌, ◌/◌, ◌≤◌, List, All, length}
use Rattle.ark_math.specs.Univariate.{of_list, product, IsQuotient}
use Rattle.ark_numbers.specs.Fields.{operations}
use Rattle.ark_words.specs.Numbers.{Spelled, numbers, AreWhole, AreReduced, BothReduced}

-- the polynomial whose coefficients the words spell
abbrev pub polynomial : Spelled → List ℕ → ℕ → ℕ
polynomial f words = of_list (operations f.known) (numbers f.width words)

-- two factors, and room for their product
abbrev pub FitProduct : Spelled → List ℕ → List ℕ → List ℕ → Type 0
FitProduct f left right product =
    AreWhole f left × AreWhole f right × AreWhole f product × (length left / f.width + length right / f.width ≤ length product / f.width + 1)

-- the new words spell the product, and zeros in what is left
abbrev pub AreMultiplied : Spelled → List ℕ → List ℕ → List ℕ → Type 0
AreMultiplied f left right new =
    (polynomial f new ≡ product (operations f.known) (polynomial f left) (polynomial f right)) × AreReduced f new

-- numbers that are zeros alone, or none: the zero polynomial
abbrev pub AreZeros : Spelled → List ℕ → Type 0
AreZeros f words = All (λ x. x ≡ 0) (numbers f.width words)

-- a quotient as long as the dividend, and a remainder as long as the divisor
abbrev pub FitQuotient : Spelled → List ℕ → List ℕ → List ℕ → List ℕ → Type 0
FitQuotient f dividend divisor quotient remainder =
    AreWhole f dividend × AreWhole f divisor × (length quotient ≡ length dividend) × (length remainder ≡ length divisor)

-- all that a division takes
abbrev pub IsDivisible : Spelled → List ℕ → List ℕ → List ℕ → List ℕ → Type 0
IsDivisible f dividend divisor quotient remainder =
    FitQuotient f dividend divisor quotient remainder × BothReduced f dividend divisor × (¬ AreZeros f divisor)

-- the words spell the quotient and the remainder, and zeros in what is left
abbrev pub AreDivided : Spelled → List ℕ → List ℕ → List ℕ → List ℕ → Type 0
AreDivided f dividend divisor quotient remainder =
    IsQuotient (operations f.known) (polynomial f dividend) (polynomial f divisor) (polynomial f quotient) (polynomial f remainder)
    × AreReduced f quotient × AreReduced f remainder
