-- What a transcript keeps of its calls.
use Rattle.std.specs.Prelude.{◌≡◌, ℕ, List}
use Rattle.ark_transcript.specs.Calls.{AllFit, Call, spelled}

-- the text that is hashed is that of the calls, and all lengths are below 2^64
pub record Keeps (text : List ℕ) (calls : List Call) : Type 0 where
  pub text_is : text ≡ spelled calls
  pub fit : AllFit calls
