-- Polynomials at the elements of a domain.
use Rattle.std.specs.Prelude.{◌≡◌, ◌≢◌, ℕ, ◌+◌, ◌-◌, ◌<◌, ◌/◌, ◌%◌, List, ◌++◌, length, ◌==◌, filter, not}
use Rattle.ark_math.specs.Field.{FieldOn, power}
use Rattle.ark_math.specs.Module.{sum_below, itself, tabulate}
use Rattle.ark_math.specs.Domain.{Domain, element}
use Rattle.ark_math.specs.Univariate.{difference, monomial, IsBelow, IsValue, value_below, of_list}

-- v is the polynomial's values at the elements, no coefficient cut off
abbrev pub AreValues : {F : Type 0} → FieldOn F → Domain F → (ℕ → F) → List F → Type 0
AreValues K d a v = (n : ℕ) × IsBelow K n a × (v ≡ tabulate d.size (λ i. value_below K n a (element K d i)))

-- x ^ n - offset ^ n
abbrev pub vanishing : {F : Type 0} → FieldOn F → Domain F → ℕ → F
vanishing K d = difference K (monomial K d.size K.one) (monomial K 0 (power K d.offset d.size))

-- the weights by which n values at the elements give the value at tau, for every polynomial below n. They are the only
-- ones: a law to state beside the call
pub record AreWeights {F : Type 0} (K : FieldOn F) (d : Domain F) (tau : F) (l : List F) : Type 0 where
  pub count : length l ≡ d.size
  pub give : (a : ℕ → F) → IsBelow K d.size a →
      sum_below (itself K) d.size (λ i. K.times (of_list K l i) (value_below K d.size a (element K d i)))
      ≡ value_below K d.size a tau

-- x is an element of d
abbrev pub IsElement : {F : Type 0} → FieldOn F → Domain F → F → Type 0
IsElement K d x = (i : ℕ) × (i < d.size) × (x ≡ element K d i)

-- each element of s is one of d
abbrev pub IsContained : {F : Type 0} → FieldOn F → Domain F → Domain F → Type 0
IsContained K s d = (i : ℕ) → i < s.size → (j : ℕ) × (j < d.size) × (element K s i ≡ element K d j)

-- one at the elements of s, zero at the other elements of d, and of degree d.size - s.size at most. It is the only one: a
-- law to state beside the call
pub record IsFilter {F : Type 0} (K : FieldOn F) (s d : Domain F) (a : ℕ → F) : Type 0 where
  pub short : IsBelow K (d.size - s.size + 1) a
  pub on : (i : ℕ) → i < s.size → IsValue K a (element K s i) K.one
  pub off : (j : ℕ) → j < d.size → ((i : ℕ) → i < s.size → element K s i ≢ element K d j) → IsValue K a (element K d j) K.zero

-- the multiples of n / s below n, and then the other numbers below n
abbrev pub reindexed : ℕ → ℕ → List ℕ
reindexed n s = filter (λ i. i % (n / s) == 0) (tabulate n (λ i. i)) ++ filter (λ i. not (i % (n / s) == 0)) (tabulate n (λ i. i))
