-- How scalings move the counts.
use Rattle.std.specs.Prelude.{ℕ, ◌≤◌}
use Rattle.ark_math.specs.Cost.{Counts, GrowsBy, counts}

-- by a product each, and by at most n of them
pub record GrowsByScalings (n : ℕ) (before after : Counts) : Type 0 where
  pub scalings : ℕ
  pub few : scalings ≤ n
  pub grows : GrowsBy (counts scalings 0 0) before after
