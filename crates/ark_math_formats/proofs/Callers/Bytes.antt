-- From what is read back to the value that was written.
use Rattle.std.proofs.Common.{◌≡◌, Result, Ok, Err, IfOk}
use Rattle.ark_math_formats.specs.Format.{Format, IsOneToOne, AreSpelledAlike}

-- where a spelling tells its value, a value that is spelled as another is that one
pub only_spelled : {X E : Type 0} (format : Format X) → IsOneToOne format → (value : X) (r : Result X E) → IfOk r (λ read. AreSpelledAlike format read value) → IfOk r (λ read. read ≡ value)
only_spelled format tells value (Ok read) a = tells read value a.has a.other a.same
only_spelled format tells value (Err e) a = tt
