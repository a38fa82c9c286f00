-- Sums of products of multilinear extensions, each by its table, and the sums of these over the cube.
use Rattle.std.specs.Prelude.{ℕ, List, [], ◌∷◌, ◌^◌, get_or, length, max}
use Rattle.ark_math.specs.Field.{FieldOn}
use Rattle.ark_math.specs.Module.{itself, sum_below, tabulate}
use Rattle.ark_math_variables.specs.Multilinear.{extension, fixed}
use Rattle.ark_math.specs.Univariate.{nothing}

-- a coefficient times the product of factors, each by the index of its table
pub record Product (F : Type 0) : Type 0 where
  pub coefficient : F
  pub factors : List ℕ

-- the table with each index, and the products that are added up
pub record SumOfProducts (F : Type 0) : Type 0 where
  pub tables : ℕ → ℕ → F
  pub addends : List (Product F)

-- the product of the values with these indices
abbrev pub picked_product : {F : Type 0} → FieldOn F → List ℕ → (ℕ → F) → F
picked_product K [] v = K.one
picked_product K (i ∷ is) v = K.times (v i) (picked_product K is v)

-- the sum, where v i stands for table i
abbrev pub combined : {F : Type 0} → FieldOn F → List (Product F) → (ℕ → F) → F
combined K [] v = K.zero
combined K (a ∷ ps) v = K.plus (K.times a.coefficient (picked_product K a.factors v)) (combined K ps v)

-- the sum of products of the tables' values at corner b
abbrev pub sum_at : {F : Type 0} → FieldOn F → SumOfProducts F → ℕ → F
sum_at K s b = combined K s.addends (λ i. s.tables i b)

-- the sum of products of the extensions' values at x
abbrev pub sum_value : {F : Type 0} → FieldOn F → SumOfProducts F → List F → F
sum_value K s x = combined K s.addends (λ i. extension K (s.tables i) x)

-- the sum over all corners, of m variables
abbrev pub cube_sum : {F : Type 0} → FieldOn F → ℕ → SumOfProducts F → F
cube_sum K m s = sum_below (itself K) (2 ^ m) (sum_at K s)

-- what is left when the first variable is bound to x
abbrev pub bound_to : {F : Type 0} → FieldOn F → F → SumOfProducts F → SumOfProducts F
bound_to K x s = record { tables = λ i. fixed K (s.tables i) (x ∷ []); addends = s.addends }

-- the sum over the m other variables where the first one is x: a round's true polynomial, at x
abbrev pub round_value : {F : Type 0} → FieldOn F → ℕ → SumOfProducts F → F → F
round_value K m s x = cube_sum K m (bound_to K x s)

-- how many factors the longest addend has: the degree in each variable is this at most
abbrev pub longest : {F : Type 0} → List (Product F) → ℕ
longest [] = 0
longest (a ∷ ps) = max (length a.factors) (longest ps)

abbrev pub degree_of : {F : Type 0} → SumOfProducts F → ℕ
degree_of s = longest s.addends

-- ---- by lists of tables

-- these products of these tables
abbrev pub sum_with : {F : Type 0} → FieldOn F → List (ℕ → F) → List (Product F) → SumOfProducts F
sum_with K ts ps = record { tables = λ i. get_or ts i (nothing K); addends = ps }

-- the one product of n tables
abbrev pub all_of : {F : Type 0} → FieldOn F → ℕ → List (Product F)
all_of K n = record { coefficient = K.one; factors = tabulate n (λ i. i) } ∷ []

abbrev pub product_of : {F : Type 0} → FieldOn F → List (ℕ → F) → SumOfProducts F
product_of K ts = sum_with K ts (all_of K (length ts))
