-- The numbers of a stripe: its items at the first k places, and what these tell at the others.
use Rattle.std.specs.Prelude.{◌≡◌, ℕ, zero, suc, ◌*◌, ◌<◌, nat_le, if◌then◌else◌}
use Rattle.std.proofs.Common.{ap}
use Rattle.ark_math.proofs.Algebra.Sums.{sum_below-same}
use Rattle.ark_math_points.specs.AtPoints.{differences}
use Rattle.ark_math.specs.Domain.{Domain}
use Rattle.ark_math.specs.Field.{FieldOn, power, natural}
use Rattle.ark_math.specs.Module.{sum_below, itself}

-- m, doubled until it is n or more, and at most so often
unfoldable pub doubled : ℕ → ℕ → ℕ → ℕ
doubled zero m n = m
doubled (suc times) m n = if nat_le n m then m else doubled times (2 * m) n

-- the least power of two from n on, up to 2^16
abbrev pub domain_size : ℕ → ℕ
domain_size n = doubled 16 1 n

-- the element at place i, of n places
abbrev pub place_element : {F : Type 0} → FieldOn F → (ℕ → F) → ℕ → ℕ → F
place_element K root n i = power K (root (domain_size n)) i

-- a field with its roots of unity, its inverses, and the numbers of its elements
pub record Numbered (F : Type 0) : Type 0 where
  pub field : FieldOn F
  pub root : ℕ → F
  pub inverse : F → F
  pub number : F → ℕ

abbrev pub numbered : {F : Type 0} → FieldOn F → (ℕ → F) → (F → F) → (F → ℕ) → Numbered F
numbered K root inverse number = record { field = K; root = root; inverse = inverse; number = number }

-- how much the value at place j counts at place i, by Lagrange's form: the product of x i - x m over the first k places m but j, by that of x j - x m
abbrev pub weight : {F : Type 0} → Numbered F → ℕ → ℕ → ℕ → ℕ → F
weight s k n i j =
    let x = place_element s.field s.root n in
    s.field.times (s.inverse (differences s.field x j k (x j))) (differences s.field x j k (x i))

-- the value at place i of the polynomial that has these at the first k places
abbrev pub value_at_place : {F : Type 0} → Numbered F → ℕ → ℕ → (ℕ → F) → ℕ → F
value_at_place s k n values i = sum_below (itself s.field) k (λ j. s.field.times (weight s k n i j) (values j))

-- its number, for the items of a stripe
abbrev pub number_at_place : {F : Type 0} → Numbered F → ℕ → ℕ → (ℕ → ℕ) → ℕ → ℕ
number_at_place s k n stripe i = s.number (value_at_place s k n (λ j. natural s.field (stripe j)) i)

-- a number depends on the first k items alone
pub number_below : {F : Type 0} (s : Numbered F) (k n : ℕ) (a b : ℕ → ℕ) (i : ℕ) → ((j : ℕ) → j < k → a j ≡ b j)
    → number_at_place s k n a i ≡ number_at_place s k n b i
number_below s k n a b i h =
    ap s.number (sum_below-same (itself s.field) k _ _ (λ j l. ap (λ x. s.field.times (weight s k n i j) (natural s.field x)) (h j l)))

-- the domain over whose first n elements the values are
pub record IsNumberDomain {F : Type 0} (K : FieldOn F) (root : ℕ → F) (n : ℕ) (d : Domain F) : Type 0 where
  pub size : d.size ≡ domain_size n
  pub root_is : d.root ≡ root d.size
  pub offset : d.offset ≡ K.one
