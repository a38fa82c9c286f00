-- What a command comes to before it is written.
use Rattle.std.specs.Prelude.{◌≡◌, ℕ, ◌⊎◌, List, Result, MatchResult, string_bytes}
use Rattle.std.specs.declared.string.String.{String}
use Rattle.std.specs.declared.alloc.Global.{Global}
use Rattle.ark_traits.specs.declared.error.PolyError.{PolyError}
use Rattle.ark_traits.specs.declared.error.PolyError.TheVariants.{Memory}
use Rattle.polyrun_lib.specs.Commands.{Command}
use Rattle.ark_numbers.specs.Fields.{Known}
use Rattle.polyrun_lib.specs.Answer.{Gives, Refuses, TakesMemory, IsCommand}

-- an error, or want of memory for an answer
abbrev pub MayRefuse : Known → Command → PolyError → Type 0
MayRefuse f c error = Refuses f c error ⊎ (TakesMemory f c × (error ≡ Memory))

abbrev pub IsOutcome : Known → Command → Result (String Global) PolyError → Type 0
IsOutcome f c outcome = MatchResult outcome (λ text. Gives f c (string_bytes text)) (MayRefuse f c)

-- for words that are a field and a command
abbrev pub IsOutcomeOf : List (List ℕ) → Result (String Global) PolyError → Type 0
IsOutcomeOf words outcome = (f : Known) × (c : Command) × IsCommand words f c × IsOutcome f c outcome
