-- What a restoration may cost.
use Rattle.std.specs.Prelude.{◌≡◌, ℕ, ◌+◌, ◌-◌, ◌*◌, ◌≤◌}
use Rattle.ark_math.specs.Root.{Adicity, odd_base}
use Rattle.ark_math.specs.Domain.{Domain}
use Rattle.ark_math.specs.Cost.{Counts, GoesBy, inverse}

-- the counts grew by at most as many butterflies and steps as so many inverse transforms over the domain take, and by at
-- most a product a butterfly, base ^ 2 - 1 products a step, and so many scalings
pub record GrowsWithin {F : Type 0} (s : Adicity) (d : Domain F) (transforms scalings : ℕ) (before after : Counts) : Type 0 where
  -- what one inverse transform goes by
  pub one_butterflies : ℕ
  pub one_steps : ℕ
  pub one : GoesBy s d.kind d.size d.size inverse one_butterflies one_steps
  -- how far the counts grew
  pub more_butterflies : ℕ
  pub more_steps : ℕ
  pub butterflies : after.butterflies ≡ before.butterflies + more_butterflies
  pub steps : after.steps ≡ before.steps + more_steps
  pub few_butterflies : more_butterflies ≤ transforms * one_butterflies
  pub few_steps : more_steps ≤ transforms * one_steps
  pub few_products : after.products ≤ before.products + (more_butterflies + (odd_base s.odd * odd_base s.odd - 1) * more_steps + scalings)
