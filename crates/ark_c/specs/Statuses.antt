-- The number of each outcome.
use Rattle.std.specs.Prelude.{ℕ, Option, Some, None, Result, Ok, Err}
use Rattle.ark_words.specs.declared.error.WordsError.{WordsError}
use Rattle.ark_words.specs.declared.error.WordsError.TheVariants.{Memory, Length, NotReduced, NoDomain, ZeroDivisor, EqualPoints, TooFew, NoCodeword}

-- of a call's outcome, and where there is no field
abbrev pub status_of : Option (Result (Unit {0}) WordsError) → ℕ
status_of None = 2
status_of (Some (Ok done)) = 0
status_of (Some (Err Memory)) = 1
status_of (Some (Err Length)) = 3
status_of (Some (Err NotReduced)) = 4
status_of (Some (Err NoDomain)) = 5
status_of (Some (Err ZeroDivisor)) = 6
status_of (Some (Err EqualPoints)) = 7
status_of (Some (Err TooFew)) = 8
status_of (Some (Err NoCodeword)) = 9
