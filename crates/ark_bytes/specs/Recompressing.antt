-- What a call did that reads a value in one mode and writes it in another.
use Rattle.std.specs.Prelude.{◌≡◌, Result, Ok, Err, ◌⊎◌}
use Rattle.std.specs.Io.KnownBytes.{Keeps}
use Rattle.ark_math_formats.specs.Format.{Format}
use Rattle.ark_bytes.specs.Reading.{SourceState, TakesSpelling, Refuses}
use Rattle.ark_bytes.specs.Writing.{SinkState, Writes}
use Rattle.ark_bytes.specs.declared.error.SerializationError.{SerializationError}

-- one spelling was taken, and the same value's other spelling was appended, or a beginning of it where the writer failed
pub record Moves {X A : Type 0} (from to : Format X) (old_source new_source : SourceState) (old new : SinkState) (result : Result A SerializationError) : Type 0 where
  pub value : X
  pub takes : TakesSpelling from old_source new_source value
  pub writes : Writes to value old new result

-- reading refused, and nothing was written
pub record RefusesToRead {X : Type 0} (from : Format X) (TakesMemory : Type 0) (old_source new_source : SourceState) (old new : SinkState) (e : SerializationError) : Type 0 where
  pub refuses : Refuses from TakesMemory old_source new_source e
  pub kept : Keeps old.contents new.contents
  pub failures : new.failures ≡ old.failures

abbrev pub Recompresses : {X A : Type 0} → Format X → Format X → Type 0 → SourceState → SourceState → SinkState → SinkState → Result A SerializationError → Type 0
Recompresses {A = A} from to TakesMemory old_source new_source old new (Ok u) = Moves {A = A} from to old_source new_source old new (Ok u)
Recompresses {A = A} from to TakesMemory old_source new_source old new (Err e) =
    Moves {A = A} from to old_source new_source old new (Err e) ⊎ RefusesToRead from TakesMemory old_source new_source old new e
