-- Multilinear extensions: polynomials in m variables, each with no power above one, by their values at the 2 ^ m corners
-- of the cube. Bit i of a corner's index is the value of variable i.
use Rattle.std.specs.Prelude.{◌≡◌, ◌≢◌, ◌⊎◌, ℕ, max, ◌+◌, ◌-◌, ◌*◌, ◌/◌, ◌^◌, ◌%◌, ◌<◌, ◌≤◌, ◌==◌, ◌&&◌, Bool, List, [], ◌∷◌}
use Rattle.std.specs.Prelude.{if◌then◌else◌, length, flat_map, nat_le, nat_lt, All, AllPairs}
use Rattle.ark_math.specs.Field.{FieldOn, minus, product_below}
use Rattle.ark_math.specs.Module.{ModuleOn, itself, sum_below, item, tabulate}
use Rattle.ark_math.specs.Cost.{IsLog2Up}
use Rattle.ark_math_variables.specs.Multivariate.{IsValueAt}
use Rattle.ark_math.specs.Univariate.{nothing, added, opposite, scaled, of_list}

-- ---- the cube

-- bit i of b
abbrev pub bit : ℕ → ℕ → Bool
bit b i = (b / 2 ^ i) % 2 == 1

-- the corner with index b, of m variables: its item i is bit i of b
abbrev pub corner : {F : Type 0} → FieldOn F → ℕ → ℕ → List F
corner K m b = tabulate m (λ i. if bit b i then K.one else K.zero)

-- how much the value at corner b counts at x: the product of x_i where bit i of b is set, and of 1 - x_i elsewhere
abbrev pub weight : {F : Type 0} → FieldOn F → List F → ℕ → F
weight K x b = product_below K (length x) (λ i. if bit b i then item (itself K) x i else minus K K.one (item (itself K) x i))

-- the value at x of the extension whose value at corner b is t b
abbrev pub extension : {F : Type 0} → FieldOn F → (ℕ → F) → List F → F
extension K t x = sum_below (itself K) (2 ^ length x) (λ b. K.times (t b) (weight K x b))

-- what is left when the first variables are bound to p: its value at corner c
abbrev pub fixed : {F : Type 0} → FieldOn F → (ℕ → F) → List F → ℕ → F
fixed K t p c = extension K (λ b. t (c * 2 ^ length p + b)) p

-- the variable that stands at l when the k variables from a on and the k from b on are exchanged
abbrev pub place : ℕ → ℕ → ℕ → ℕ → ℕ
place a b k l = if nat_le a l && nat_lt l (a + k) then (l - a) + b else (if nat_le b l && nat_lt l (b + k) then (l - b) + a else l)

-- x with its k items from a on and its k items from b on exchanged
abbrev pub exchanged : {F : Type 0} → FieldOn F → List F → ℕ → ℕ → ℕ → List F
exchanged K x a b k = tabulate (length x) (λ i. item (itself K) x (place a b k i))

-- windows that can be exchanged among m variables: the same one, an empty one, or two of which the first ends where the
-- second starts or before, and the second where the variables end or before
abbrev pub AreWindows : ℕ → ℕ → ℕ → ℕ → Type 0
AreWindows m a b k = (a ≡ b) ⊎ (k ≡ 0) ⊎ ((a + k ≤ b) × (b + k ≤ m)) ⊎ ((b + k ≤ a) × (a + k ≤ m))

-- ---- tables

-- a number of variables, and the value at each corner: zero past the last one
pub record Table (F : Type 0) : Type 0 where
  pub variables : ℕ
  pub value : ℕ → F

-- zero of no variables
abbrev pub zero_table : {F : Type 0} → FieldOn F → Table F
zero_table K = record { variables = 0; value = nothing K }

abbrev pub table_sum : {F : Type 0} → FieldOn F → Table F → Table F → Table F
table_sum K s t = record { variables = max s.variables t.variables; value = added K s.value t.value }

abbrev pub table_opposite : {F : Type 0} → FieldOn F → Table F → Table F
table_opposite K t = record { variables = t.variables; value = opposite K t.value }

-- a multiple, which keeps the variables
abbrev pub table_scaled : {F : Type 0} → FieldOn F → F → Table F → Table F
table_scaled K c t = record { variables = t.variables; value = scaled K c t.value }

-- these together
abbrev pub table_operations : {F : Type 0} → FieldOn F → ModuleOn F (Table F)
table_operations K = record { zero = zero_table K; plus = table_sum K; negated = table_opposite K; scale = table_scaled K }

-- as many variables, or one of them is zero of no variables
abbrev pub AreAddable : {F : Type 0} → FieldOn F → Table F → Table F → Type 0
AreAddable K s t = (s.variables ≡ t.variables) ⊎ (s ≡ zero_table K) ⊎ (t ≡ zero_table K)

-- what stands at b after the pairs (index, value) are written in order over d: the last one wins
abbrev pub written : {F : Type 0} → F → List (ℕ × F) → ℕ → F
written d [] b = d
written d (p ∷ ps) b = written (if p.0 == b then p.1 else d) ps b

-- the lists one after the other, then zeros up to the least power of two that holds them
pub record IsConcat {F : Type 0} (K : FieldOn F) (ts : List (List F)) (t : Table F) : Type 0 where
  pub variables : IsLog2Up (length (flat_map (λ (x : List F). x) ts)) t.variables
  pub values : t.value ≡ of_list K (flat_map (λ (x : List F). x) ts)

-- ---- polynomials of terms

-- a product of variables below m: they rise strictly, each with power one
pub record IsSquareFree (m : ℕ) (ps : List (ℕ × ℕ)) : Type 0 where
  pub rising : AllPairs (λ p q. p.0 < q.0) ps
  pub once : All (λ p. (p.0 < m) × (p.1 ≡ 1)) ps

-- only terms in variables below m, with no power above one
abbrev pub IsMultilinear : {F : Type 0} → FieldOn F → ℕ → (List (ℕ × ℕ) → F) → Type 0
IsMultilinear K m a = (t : List (ℕ × ℕ)) → a t ≢ K.zero → IsSquareFree m t

-- such a polynomial with the table's values at the corners
pub record Interpolates {F : Type 0} (K : FieldOn F) (t : Table F) (a : List (ℕ × ℕ) → F) : Type 0 where
  pub multilinear : IsMultilinear K t.variables a
  pub corners : (b : ℕ) → b < 2 ^ t.variables → IsValueAt K a (corner K t.variables b) (t.value b)
