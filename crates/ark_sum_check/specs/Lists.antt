-- Tables by the lists of their values, and addends as a program has them.
use Rattle.std.specs.Prelude.{◌≡◌, ℕ, List, Option, None, Some, ◌^◌, ◌<◌, All, length, map, Vec}
use Rattle.std.specs.declared.alloc.Global.{Global}
use Rattle.ark_math.specs.Field.{FieldOn}
use Rattle.ark_math.specs.Univariate.{of_list}
use Rattle.ark_sum_check.specs.Cube.{Product}
use Rattle.ark_sum_check.specs.Provers.{Summed}
use Rattle.ark_sum_check.specs.declared.addend.Addend.{Addend}

-- lists of values as tables
abbrev pub as_tables : {F : Type 0} → FieldOn F → List (Vec F Global) → List (ℕ → F)
as_tables K vs = map (λ v. of_list K v.items) vs

-- addends as products
abbrev pub as_products : {F : Type 0} → List (Addend F) → List (Product F)
as_products ps = map (λ a. record { coefficient = a.coefficient; factors = a.factors.items }) ps

-- each factor is one of n tables
abbrev pub AreWithin : {F : Type 0} → ℕ → List (Addend F) → Type 0
AreWithin n ps = All (λ a. All (λ i. i < n) a.factors.items) ps

-- addends, or none where all tables make one product
abbrev pub as_sum : {F : Type 0} → Option (Vec (Addend F) Global) → Option (List (Product F))
as_sum None = None
as_sum (Some ps) = Some (as_products ps.items)

abbrev pub FitTables : {F : Type 0} → ℕ → Option (Vec (Addend F) Global) → Type 0
FitTables n None = Unit {0}
FitTables n (Some ps) = AreWithin n ps.items

-- what a prover has with these values and addends, of m variables
abbrev pub as_summed : {F : Type 0} → List (Vec F Global) → Option (Vec (Addend F) Global) → ℕ → Summed F
as_summed vs ps m = record { values = map (λ v. v.items) vs; addends = as_sum ps; variables = m }

-- each table by as many values as there are corners, of fewer than 64 variables, and addends of these tables
pub record AreSummed {F : Type 0} (vs : List (Vec F Global)) (ps : Option (Vec (Addend F) Global)) (m : ℕ) : Type 0 where
  pub whole : All (λ v. length v.items ≡ 2 ^ m) vs
  pub few : m < 64
  pub within : FitTables (length vs) ps
