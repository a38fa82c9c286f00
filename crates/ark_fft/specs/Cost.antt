-- How far one transform moves the counts.
use Rattle.std.specs.Prelude.{ℕ}
use Rattle.ark_math.specs.Root.{Adicity}
use Rattle.ark_math.specs.Domain.{Domain}
use Rattle.ark_math.specs.Cost.{Counts, GrowsBy, Direction, IsCost}

-- by the cost of one transform of a list of this length over the domain
pub record GrowsByCost {F : Type 0} (s : Adicity) (d : Domain F) (len : ℕ) (direction : Direction) (before after : Counts) : Type 0 where
  pub growth : Counts
  pub is_cost : IsCost s d.kind d.size len direction growth
  pub grows : GrowsBy growth before after
