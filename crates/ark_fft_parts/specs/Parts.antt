-- A transform in parts: a list as rows of equally many items, the domains of its columns and rows, and what is made of them.
use Rattle.std.specs.Prelude.{◌≡◌, ℕ, ◌+◌, ◌*◌, ◌<◌, List}
use Rattle.ark_math.specs.Field.{FieldOn, power}
use Rattle.ark_math.specs.Module.{ModuleOn, item, tabulate}
use Rattle.ark_math.specs.Domain.{Domain, domain_of, element}
use Rattle.ark_math.specs.Transform.{transform, IsInverse}
use Rattle.ark_math.specs.Univariate.{of_list}

-- ---- a list as rows of c items, one after the other

-- column j, of r items
abbrev pub column : {F M : Type 0} → ModuleOn F M → ℕ → ℕ → List M → ℕ → List M
column V r c xs j = tabulate r (λ i. item V xs (i * c + j))

-- row i
abbrev pub row : {F M : Type 0} → ModuleOn F M → ℕ → List M → ℕ → List M
row V c xs i = tabulate c (λ j. item V xs (i * c + j))

-- item i of each of c columns
abbrev pub across : {F M : Type 0} → ModuleOn F M → ℕ → (ℕ → List M) → ℕ → List M
across V c columns i = tabulate c (λ j. item V (columns j) i)

-- item j of each of r rows
abbrev pub down : {F M : Type 0} → ModuleOn F M → ℕ → (ℕ → List M) → ℕ → List M
down V r rows j = tabulate r (λ i. item V (rows i) j)

-- ---- the domains of the parts

-- that of each of c columns, of r items
abbrev pub of_columns : {F : Type 0} → FieldOn F → Domain F → ℕ → ℕ → Domain F
of_columns K d r c = domain_of d.kind r (power K d.root c) (power K d.offset c)

-- that of row i of r rows, of c items: its offset makes the twiddles of the row, element i to the j at item j
abbrev pub of_row : {F : Type 0} → FieldOn F → Domain F → ℕ → ℕ → ℕ → Domain F
of_row K d r c i = domain_of d.kind c (power K d.root r) (element K d i)

-- ---- what is made of them

-- item j of row i is item i + r * j of the list
abbrev pub AreInParts : {F M : Type 0} → ModuleOn F M → ℕ → ℕ → List M → (ℕ → List M) → Type 0
AreInParts V r c values rows = (i j : ℕ) → i < r → j < c → item V (rows i) j ≡ item V values (i + r * j)

-- each column transformed
abbrev pub AreColumnsMade : {F M : Type 0} → FieldOn F → ModuleOn F M → Domain F → ℕ → ℕ → List M → (ℕ → List M) → Type 0
AreColumnsMade K V d r c xs columns = (j : ℕ) → j < c → columns j ≡ transform K V (of_columns K d r c) (column V r c xs j)

-- and each row of these
abbrev pub AreRowsMade : {F M : Type 0} → FieldOn F → ModuleOn F M → Domain F → ℕ → ℕ → (ℕ → List M) → (ℕ → List M) → Type 0
AreRowsMade K V d r c columns rows = (i : ℕ) → i < r → rows i ≡ transform K V (of_row K d r c i) (across V c columns i)

-- the inverse of each row
abbrev pub AreRowsUnmade : {F M : Type 0} → FieldOn F → ModuleOn F M → Domain F → ℕ → ℕ → (ℕ → List M) → (ℕ → List M) → Type 0
AreRowsUnmade K V d r c rows before = (i : ℕ) → i < r → IsInverse K V (of_row K d r c i) (rows i) (before i)

-- and of each column of these, which is that of the list
abbrev pub AreColumnsUnmade : {F M : Type 0} → FieldOn F → ModuleOn F M → Domain F → ℕ → ℕ → (ℕ → List M) → List M → Type 0
AreColumnsUnmade K V d r c before xs = (j : ℕ) → j < c → IsInverse K V (of_columns K d r c) (down V r before j) (column V r c xs j)

-- place by place, the products of the values
abbrev pub AreProducts : {F : Type 0} → FieldOn F → ℕ → ℕ → (ℕ → List F) → (ℕ → List F) → (ℕ → List F) → Type 0
AreProducts K r c p q rows = (i j : ℕ) → i < r → j < c → of_list K (rows i) j ≡ K.times (of_list K (p i) j) (of_list K (q i) j)
