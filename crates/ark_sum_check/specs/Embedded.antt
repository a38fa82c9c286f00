-- A sum of products over a field, over one that this lies in.
use Rattle.std.specs.Prelude.{List, map}
use Rattle.ark_sum_check.specs.Cube.{Product, SumOfProducts}

-- each coefficient by f
abbrev pub embedded_products : {F G : Type 0} → (F → G) → List (Product F) → List (Product G)
embedded_products f ps = map (λ a. record { coefficient = f a.coefficient; factors = a.factors }) ps

-- each table's values and each coefficient by f
abbrev pub embedded_sum : {F G : Type 0} → (F → G) → SumOfProducts F → SumOfProducts G
embedded_sum f s = record { tables = λ i b. f (s.tables i b); addends = embedded_products f s.addends }
