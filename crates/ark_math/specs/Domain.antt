-- Domains: the n elements offset * root ^ i of a subgroup or a coset.
use Rattle.std.specs.Prelude.{◌≡◌, ◌≢◌, ℕ, ◌*◌, ◌^◌, ◌%◌, ◌<◌, ◌≤◌, IsSome, List}
use Rattle.ark_math.specs.Field.{FieldOn, power}
use Rattle.ark_math.specs.Module.{tabulate}
use Rattle.ark_math.specs.Root.{Adicity, Splits, IsSupported}

-- powers of two alone, or of two and the field's odd base
pub data Kind : Type 0 where
  radix2 : Kind
  mixed_radix : Kind

pub record Domain (F : Type 0) : Type 0 where
  pub kind : Kind
  pub size : ℕ
  pub root : F
  pub offset : F

-- the domain of this kind, size, root and offset
abbrev pub domain_of : {F : Type 0} → Kind → ℕ → F → F → Domain F
domain_of kind size root offset = record { kind = kind; size = size; root = root; offset = offset }

-- its element i, for every i
abbrev pub element : {F : Type 0} → FieldOn F → Domain F → ℕ → F
element K d i = K.times d.offset (power K d.root i)

-- the sizes with this power of the base
abbrev pub IsSizeWith : Adicity → ℕ → ℕ → Type 0
IsSizeWith s odds n = (twos : ℕ) × Splits s n twos odds

-- the sizes of a kind: mixed ones only with a base
abbrev pub IsSize : Adicity → Kind → ℕ → Type 0
IsSize s radix2 n = IsSizeWith s 0 n
IsSize s mixed_radix n = IsSome s.odd × IsSupported s n

-- the domains that there are
pub record IsDomain {F : Type 0} (K : FieldOn F) (s : Adicity) (root : ℕ → F) (d : Domain F) : Type 0 where
  pub size_of : IsSize s d.kind d.size
  pub root_of : d.root ≡ root d.size
  pub offset_not_zero : d.offset ≢ K.zero

-- its n elements in order
abbrev pub elements : {F : Type 0} → FieldOn F → Domain F → List F
elements K d = tabulate d.size (element K d)

-- the least number at or above k that is P
pub record IsLeast (P : ℕ → Type 0) (k n : ℕ) : Type 0 where
  pub holds : P n
  pub above : k ≤ n
  pub least : (m : ℕ) → P m → k ≤ m → n ≤ m

-- no number at or above k is P
abbrev pub HasNone : (ℕ → Type 0) → ℕ → Type 0
HasNone P k = (m : ℕ) → P m → m < k

-- a type of domains that chooses kinds and sizes so has none for k
abbrev pub HasNoSize : (ℕ → Kind → ℕ → Type 0) → ℕ → Type 0
HasNoSize chooses k = (kind : Kind) (n : ℕ) → chooses k kind n → ⊥

-- what the radix 2 type takes for k: the least supported power of two
abbrev pub IsRadix2 : Adicity → ℕ → Kind → ℕ → Type 0
IsRadix2 s k radix2 n = IsLeast (IsSize s radix2) k n
IsRadix2 s k mixed_radix n = ⊥

-- what the mixed radix type takes for k: the least supported size of all, over a field with a base
abbrev pub IsMixedRadix : Adicity → ℕ → Kind → ℕ → Type 0
IsMixedRadix s k radix2 n = ⊥
IsMixedRadix s k mixed_radix n = IsLeast (IsSize s mixed_radix) k n

-- what the general type takes for k: radix 2 where there is one, else mixed
abbrev pub IsGeneral : Adicity → ℕ → Kind → ℕ → Type 0
IsGeneral s k radix2 n = IsLeast (IsSize s radix2) k n
IsGeneral s k mixed_radix n = IsLeast (IsSize s mixed_radix) k n × HasNone (IsSize s radix2) k

-- n is 2 ^ e times an odd number
abbrev pub IsExponentOfTwo : ℕ → ℕ → Type 0
IsExponentOfTwo n e = (odd : ℕ) × (n ≡ 2 ^ e * odd) × (odd % 2 ≡ 1)
