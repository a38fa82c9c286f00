-- What contracts see of a prover: the sum of products that it has left, and how many variables this has.
use Rattle.std.specs.Prelude.{ℕ, List, Option, None, Some, [], ◌∷◌, ◌<◌, AllPairs, length, map}
use Rattle.ark_math.specs.Field.{FieldOn}
use Rattle.ark_math.specs.Univariate.{of_list, of_pairs}
use Rattle.ark_sum_check.specs.Cube.{Product, SumOfProducts, all_of, product_of, sum_with}

-- each table's values in the order of their indices, the addends, and the number of variables: without addends it is the
-- product of all tables
pub record Summed (F : Type 0) : Type 0 where
  pub values : List (List F)
  pub addends : Option (List (Product F))
  pub variables : ℕ

-- the addends, of n tables
abbrev pub addends_of : {F : Type 0} → FieldOn F → ℕ → Option (List (Product F)) → List (Product F)
addends_of K n None = all_of K n
addends_of K n (Some ps) = ps

-- what a prover has left
abbrev pub sum_of : {F : Type 0} → FieldOn F → Summed F → SumOfProducts F
sum_of K p = sum_with K (map (λ t. of_list K t) p.values) (addends_of K (length p.values) p.addends)

-- the number of variables
abbrev pub variables_of : {F : Type 0} → Summed F → ℕ
variables_of p = p.variables

-- ---- one factor by its entries

-- pairs of index and value, and the number of variables
pub record Entries (F : Type 0) : Type 0 where
  pub entries : List (ℕ × F)
  pub variables : ℕ

-- the table with these entries and zeros elsewhere, the only factor
abbrev pub factor_of : {F : Type 0} → FieldOn F → Entries F → SumOfProducts F
factor_of K p = product_of K (of_pairs K p.entries ∷ [])

-- their indices rise: one entry at most for each corner
abbrev pub AreRising : {F : Type 0} → List (ℕ × F) → Type 0
AreRising es = AllPairs (λ p q. p.0 < q.0) es
