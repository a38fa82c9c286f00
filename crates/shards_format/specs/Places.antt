-- Places, among which some are.
use Rattle.std.specs.Prelude.{◌≡◌, ℕ, ◌<◌, ◌≤◌, ◌⊎◌, List, length, get_or}
use Rattle.shards_format.specs.Files.{AreApart}

-- a number is one of these
abbrev pub IsAmong : List ℕ → ℕ → Type 0
IsAmong xs x = (a : ℕ) × (a < length xs) × (get_or xs a 0 ≡ x)

-- those of the first k places that are not given, each once
pub record AreMissing (k : ℕ) (given missing : List ℕ) : Type 0 where
  pub few : length missing ≤ k
  pub below : (b : ℕ) → b < length missing → get_or missing b 0 < k
  pub apart : AreApart missing
  pub lacking : (b : ℕ) → b < length missing → IsAmong given (get_or missing b 0) → ⊥
  pub all : (j : ℕ) → j < k → IsAmong given j ⊎ IsAmong missing j
