-- What a call of a writer did to the bytes that it was given and to the count of its failures.
use Rattle.std.specs.Prelude.{◌≡◌, ℕ, ◌+◌, List, ◌++◌, Option, Result, MatchResult}
use Rattle.std.specs.Io.KnownBytes.{Appends}

-- known bytes grow by a beginning of bytes
pub record AppendsBeginning (old new : Option (List ℕ)) (bytes : List ℕ) : Type 0 where
  pub written : List ℕ
  pub unwritten : List ℕ
  pub splits : bytes ≡ written ++ unwritten
  pub appends : Appends old new written

-- the count stays at `Ok`, and grows by one at `Err`
abbrev pub CountsFailure : {A E : Type 0} → Result A E → ℕ → ℕ → Type 0
CountsFailure result old new = MatchResult result (λ _. new ≡ old) (λ _. new ≡ old + 1)
