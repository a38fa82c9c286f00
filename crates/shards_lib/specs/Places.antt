-- Places that are kept.
use Rattle.std.specs.Prelude.{◌≡◌, ◌≢◌, ℕ, ◌+◌, ◌<◌, Bool, false, true, List, length, get_or}
use Rattle.rs_code.specs.Codeword.{mark_count}

-- places that are all different, and have no marks, and of so many places all others have one
pub record AreKept (size : ℕ) (marks : List Bool) (places : List ℕ) : Type 0 where
  pub apart : (a b : ℕ) → a < b → b < length places → get_or places a 0 ≢ get_or places b 0
  pub unmarked : (a : ℕ) → a < length places → get_or marks (get_or places a 0) true ≡ false
  pub count : mark_count marks + length places ≡ size
