-- Polynomials by their coefficients: a form denotes a function from exponents (or from terms) to coefficients, and two
-- polynomials are equal if all their coefficients are.
use Rattle.std.specs.Prelude.{◌≡◌, ◌≢◌, ℕ, suc, ◌+◌, ◌-◌, ◌<◌, ◌≤◌, List, [], ◌∷◌, length, get_or, All, ◌==◌, if◌then◌else◌}
use Rattle.std.specs.List.{AllPairs}
use Rattle.ark_math.specs.Field.{FieldOn, power, minus}
use Rattle.ark_math.specs.Module.{ModuleOn, sum_below, itself}

-- ---- coefficient by coefficient, for exponents and terms alike

-- the zero polynomial
abbrev pub nothing : {I F : Type 0} → FieldOn F → I → F
nothing K i = K.zero

abbrev pub added : {I F : Type 0} → FieldOn F → (I → F) → (I → F) → I → F
added K a b i = K.plus (a i) (b i)

abbrev pub difference : {I F : Type 0} → FieldOn F → (I → F) → (I → F) → I → F
difference K a b i = minus K (a i) (b i)

abbrev pub opposite : {I F : Type 0} → FieldOn F → (I → F) → I → F
opposite K a i = K.negated (a i)

abbrev pub scaled : {I F : Type 0} → FieldOn F → F → (I → F) → I → F
scaled K f a i = K.times f (a i)

-- these together
abbrev pub coefficient_operations : {I F : Type 0} → FieldOn F → ModuleOn F (I → F)
coefficient_operations K = record { zero = nothing K; plus = added K; negated = opposite K; scale = scaled K }

-- ---- one variable

-- the coefficients from n on are zero
abbrev pub IsBelow : {F : Type 0} → FieldOn F → ℕ → (ℕ → F) → Type 0
IsBelow K n a = (i : ℕ) → n ≤ i → a i ≡ K.zero

-- c times the variable to the n
abbrev pub monomial : {F : Type 0} → FieldOn F → ℕ → F → ℕ → F
monomial K n c i = if n == i then c else K.zero

-- the coefficient at k is the sum over i + j = k of the products
abbrev pub product : {F : Type 0} → FieldOn F → (ℕ → F) → (ℕ → F) → ℕ → F
product K a b k = sum_below (itself K) (suc k) (λ i. K.times (a i) (b (k - i)))

-- the greatest exponent, 0 where there is none
pub record IsDegree {F : Type 0} (K : FieldOn F) (a : ℕ → F) (d : ℕ) : Type 0 where
  pub rest : IsBelow K (d + 1) a
  pub leading : 0 < d → a d ≢ K.zero

-- the sum of the first n coefficients' parts at x
abbrev pub value_below : {F : Type 0} → FieldOn F → ℕ → (ℕ → F) → F → F
value_below K n a x = sum_below (itself K) n (λ i. K.times (power K x i) (a i))

-- y is the polynomial's value at x
abbrev pub IsValue : {F : Type 0} → FieldOn F → (ℕ → F) → F → F → Type 0
IsValue K a x y = (n : ℕ) × IsBelow K n a × (y ≡ value_below K n a x)

-- a = q * d + r, where q is a polynomial, and r is below the degree of d, which isn't zero
pub record IsQuotient {F : Type 0} (K : FieldOn F) (a d q r : ℕ → F) : Type 0 where
  pub finite : (n : ℕ) × IsBelow K n q
  pub whole : a ≡ added K (product K q d) r
  pub degree : (k : ℕ) × (d k ≢ K.zero) × IsBelow K (k + 1) d × IsBelow K k r

-- what a division of a by d gives: zeros for zero, whatever d is, and else the quotient and remainder, of which there are
-- no others
pub record IsDivision {F : Type 0} (K : FieldOn F) (a d q r : ℕ → F) : Type 0 where
  pub quotient : d ≢ nothing K → IsQuotient K a d q r
  pub only : (p s : ℕ → F) → IsQuotient K a d p s → (p ≡ q) × (s ≡ r)
  pub zeros : a ≡ nothing K → (q ≡ nothing K) × (r ≡ nothing K)

-- ---- forms

-- what a dense list denotes: item i is the coefficient at i
abbrev pub of_list : {F : Type 0} → FieldOn F → List F → ℕ → F
of_list K c i = get_or c i K.zero

-- the last item isn't zero
abbrev pub IsTrimmed : {F : Type 0} → FieldOn F → List F → Type 0
IsTrimmed K c = 0 < length c → of_list K c (length c - 1) ≢ K.zero

-- what a list of (exponent, coefficient) denotes: their sum
abbrev pub of_pairs : {F : Type 0} → FieldOn F → List (ℕ × F) → ℕ → F
of_pairs K [] = nothing K
of_pairs K (p ∷ ps) = added K (monomial K p.0 p.1) (of_pairs K ps)

-- exponents strictly rising, no coefficient zero
pub record IsSparse {F : Type 0} (K : FieldOn F) (ps : List (ℕ × F)) : Type 0 where
  pub rising : AllPairs (λ p q. p.0 < q.0) ps
  pub some : All (λ p. p.1 ≢ K.zero) ps

-- at most n coefficients aren't zero
abbrev pub HasAtMost : {F : Type 0} → FieldOn F → ℕ → (ℕ → F) → Type 0
HasAtMost {F} K n a = (ps : List (ℕ × F)) × (length ps ≤ n) × IsSparse K ps × (of_pairs K ps ≡ a)
