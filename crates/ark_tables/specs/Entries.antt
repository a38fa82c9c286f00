-- Which entries, with a number of variables and a value, make a table.
use Rattle.std.specs.Prelude.{◌≡◌, ℕ, ◌^◌, ◌<◌, List, All}
use Rattle.ark_math.specs.Field.{FieldOn}
use Rattle.ark_math.specs.Univariate.{IsSparse}

-- entries, a number of variables and a value as a sparse extension has them
pub record AreEntries {F : Type 0} (K : FieldOn F) (p : List (ℕ × F) × (ℕ × F)) : Type 0 where
  pub sparse : IsSparse K p.0
  pub within : All (λ e. e.0 < 2 ^ p.1.0) p.0
  pub few : p.1.0 < 64
  pub nothing : p.1.1 ≡ K.zero
