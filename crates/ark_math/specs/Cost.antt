-- What a transform costs, in butterflies, steps and products.
use Rattle.std.specs.Prelude.{◌≡◌, ℕ, ◌+◌, ◌-◌, ◌*◌, ◌/◌, ◌^◌, ◌≤◌, nat_le, if◌then◌else◌}
use Rattle.ark_math.specs.Root.{Adicity, Splits, odd_base}
use Rattle.ark_math.specs.Domain.{Kind, radix2, mixed_radix}

-- e is the base two logarithm of n, rounded up; 0 for 0
abbrev pub IsLog2Up : ℕ → ℕ → Type 0
IsLog2Up n e = (n ≤ 2 ^ e) × ((k : ℕ) → n ≤ 2 ^ k → e ≤ k)

-- which way a transform goes: from coefficients to values, or back
pub data Direction : Type 0 where
  forward : Direction
  inverse : Direction

-- counts of products, butterflies and steps, or how far each of them grows
pub record Counts : Type 0 where
  pub products : ℕ
  pub butterflies : ℕ
  pub steps : ℕ

-- so many products, butterflies and steps
abbrev pub counts : ℕ → ℕ → ℕ → Counts
counts products butterflies steps = record { products = products; butterflies = butterflies; steps = steps }

-- so many butterflies, with a product each
abbrev pub butterfly_counts : ℕ → Counts
butterfly_counts n = counts n n 0

-- each count grows by just as much as the growth says
pub record GrowsBy (growth before after : Counts) : Type 0 where
  pub products : after.products ≡ before.products + growth.products
  pub butterflies : after.butterflies ≡ before.butterflies + growth.butterflies
  pub steps : after.steps ≡ before.steps + growth.steps

-- the items that a transform of radix 2 of a list of this length goes by: a list of at most a quarter of the n items goes
-- forward as it is, each other as n
abbrev pub counted_items : ℕ → ℕ → Direction → ℕ
counted_items n len forward = if nat_le len (n / 4) then len else n
counted_items n len inverse = n

-- the butterflies and steps of a transform of a list of this length over n places: n / 2 butterflies for each level of
-- the counted items; or n / 2 for each factor of two, and n / base steps for each factor of the base
abbrev pub GoesBy : Adicity → Kind → ℕ → ℕ → Direction → ℕ → ℕ → Type 0
GoesBy s radix2 n len direction butterflies steps =
    (levels : ℕ) × IsLog2Up (counted_items n len direction) levels × (butterflies ≡ n / 2 * levels) × (steps ≡ 0)
GoesBy s mixed_radix n len direction butterflies steps =
    (twos : ℕ) × (odds : ℕ) × Splits s n twos odds × (butterflies ≡ twos * n / 2) × (steps ≡ odds * n / odd_base s.odd)

-- one such transform may cost this growth: a product a butterfly, base ^ 2 - 1 products a step, and at most one scaling
-- a place
pub record IsCost (s : Adicity) (kind : Kind) (n len : ℕ) (direction : Direction) (growth : Counts) : Type 0 where
  pub goes_by : GoesBy s kind n len direction growth.butterflies growth.steps
  pub scalings : ℕ
  pub few : scalings ≤ n
  pub products : growth.products ≡ growth.butterflies + (odd_base s.odd * odd_base s.odd - 1) * growth.steps + scalings
