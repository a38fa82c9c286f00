-- How transforms of parts move the counts.
use Rattle.std.specs.Prelude.{ℕ, ◌+◌, ◌*◌, ◌/◌, ◌≤◌}
use Rattle.ark_math.specs.Cost.{Counts, GrowsBy, IsLog2Up, counts}

-- by so many transforms of n items each, with n / 2 butterflies a level, a product a butterfly, and at most a scaling an item
pub record GrowsByTransforms (count n : ℕ) (before after : Counts) : Type 0 where
  pub levels : ℕ
  pub log : IsLog2Up n levels
  pub scalings : ℕ
  pub few : scalings ≤ count * n
  pub grows : GrowsBy (counts (count * (n / 2 * levels) + scalings) (count * (n / 2 * levels)) 0) before after

-- by as many butterflies as one transform of n items, with a product a butterfly, and at most two scalings an item
pub record GrowsByParts (n : ℕ) (before after : Counts) : Type 0 where
  pub levels : ℕ
  pub log : IsLog2Up n levels
  pub scalings : ℕ
  pub few : scalings ≤ 2 * n
  pub grows : GrowsBy (counts (n / 2 * levels + scalings) (n / 2 * levels) 0) before after
