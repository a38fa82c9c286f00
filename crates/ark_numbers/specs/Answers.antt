-- What calls answer over a field, by the numbers of its elements.
use Rattle.std.specs.Prelude.{◌≡◌, ◌≢◌, ℕ, ◌+◌, ◌-◌, ◌/◌, ◌%◌, ◌<◌, ◌==◌, ◌⊎◌, List, [], length}
use Rattle.ark_math.specs.Field.{power}
use Rattle.ark_math.specs.Module.{itself}
use Rattle.ark_math.specs.Root.{Adicity}
use Rattle.ark_math.specs.Domain.{Kind, radix2, Domain, HasNoSize, IsSize, IsGeneral}
use Rattle.ark_math.specs.Transform.{transform, IsInverse}
use Rattle.ark_math_polynomials.specs.NormalForms.{trim}
use Rattle.ark_math.specs.Univariate.{of_list, product, IsTrimmed, IsQuotient}
use Rattle.ark_numbers.specs.Fields.{Known, operations, reduced}

-- ---- domains and transforms

-- the kind and the size of the domain for k
abbrev pub IsChosen : Adicity → ℕ → Kind → ℕ → Type 0
IsChosen = IsGeneral

abbrev pub domain_of : Known → Kind → ℕ → ℕ → Domain ℕ
domain_of f kind n h = record { kind = kind; size = n; root = power (operations f) f.generator ((f.modulus - 1) / n); offset = h % f.modulus }

-- d is the domain for k with the offset h
abbrev pub IsDomainFor : Known → ℕ → ℕ → Domain ℕ → Type 0
IsDomainFor f k h d = (kind : Kind) × (n : ℕ) × IsChosen f.adicity k kind n × (h % f.modulus ≢ 0) × (d ≡ domain_of f kind n h)

-- no domain is as long as k, or the offset is zero
abbrev pub HasNoDomain : Known → ℕ → ℕ → Type 0
HasNoDomain f k h = HasNoSize (IsChosen f.adicity) k ⊎ (h % f.modulus ≡ 0)

-- a domain has exactly n elements
abbrev pub IsLength : Known → ℕ → Type 0
IsLength f n = (kind : Kind) × IsSize f.adicity kind n

-- the n numbers h, h * w, h * w ^ 2 and so on, where w is the generator's power (p - 1) / n. Transforms don't go by the kind
abbrev pub coset_of : Known → ℕ → ℕ → Domain ℕ
coset_of f n h = domain_of f radix2 n h

-- ys are the values at the domain's elements of the polynomial with the coefficients xs
abbrev pub AreValues : Known → Domain ℕ → List ℕ → List ℕ → Type 0
AreValues f d xs ys = ys ≡ transform (operations f) (itself (operations f)) d xs

-- ys are the numbers below the modulus, as many as the domain's elements, whose values are xs
abbrev pub AreInterpolated : Known → Domain ℕ → List ℕ → List ℕ → Type 0
AreInterpolated f d xs ys = IsInverse (operations f) (itself (operations f)) d xs ys × (reduced f ys ≡ ys)

-- ---- polynomials

-- numbers as the coefficients of a polynomial, whose last one isn't zero
abbrev pub coefficients : Known → List ℕ → List ℕ
coefficients f xs = trim (λ x. x == 0) (reduced f xs)

-- numbers below the modulus, the last one not zero
abbrev pub AreCoefficients : Known → List ℕ → Type 0
AreCoefficients f zs = IsTrimmed (operations f) zs × (reduced f zs ≡ zs)

-- the coefficients of the product of two polynomials
abbrev pub AreProduct : Known → List ℕ → List ℕ → List ℕ → Type 0
AreProduct f xs ys zs = (of_list (operations f) zs ≡ product (operations f) (of_list (operations f) xs) (of_list (operations f) ys))
    × AreCoefficients f zs

-- no domain is as long as the product of two polynomials, of which neither is zero
abbrev pub HasNoProduct : Known → List ℕ → List ℕ → Type 0
HasNoProduct f xs ys = (0 < length xs) × (0 < length ys) × HasNoSize (IsChosen f.adicity) (length xs + length ys - 1)

-- the coefficients of the quotient and the remainder of a polynomial by another: both zero for zero, whatever the other is
abbrev pub AreQuotient : Known → List ℕ → List ℕ → List ℕ → List ℕ → Type 0
AreQuotient f xs ys qs rs =
    (((xs ≡ []) × (qs ≡ []) × (rs ≡ []))
    ⊎ IsQuotient (operations f) (of_list (operations f) xs) (of_list (operations f) ys) (of_list (operations f) qs) (of_list (operations f) rs))
    × AreCoefficients f qs × AreCoefficients f rs

-- a polynomial that isn't zero, and zero
abbrev pub HasNoQuotient : List ℕ → List ℕ → Type 0
HasNoQuotient xs ys = (0 < length xs) × (ys ≡ [])
