-- What a call that reads a value did to the reader's bytes.
use Rattle.std.specs.Prelude.{◌≡◌, ℕ, ◌<◌, List, length, Option, Result, Ok, Err, ◌⊎◌}
use Rattle.std.specs.Io.KnownBytes.{Consumes, IsAtEnd}
use Rattle.ark_math_formats.specs.Format.{Format, IsUnfinished}
use Rattle.ark_bytes.specs.declared.error.SerializationError.{SerializationError}
use Rattle.ark_bytes.specs.declared.error.SerializationError.TheVariants.{IoError, InvalidData, Memory}

-- what a call sees of a reader: the bytes that it has left, where they are known, and how often it failed
pub record SourceState : Type 0 where
  pub remaining : Option (List ℕ)
  pub failures : ℕ

abbrev pub source_state : {S : Type 0} → (S → Option (List ℕ)) → (S → ℕ) → S → SourceState
source_state remaining failures s = record { remaining = remaining s; failures = failures s }

-- the reader failed in that call, or is at its end
abbrev pub HasStopped : SourceState → SourceState → Type 0
HasStopped old new = (old.failures < new.failures) ⊎ IsAtEnd new.remaining

-- these bytes were taken, and no call of the reader failed
pub record Takes (old new : SourceState) (bytes : List ℕ) : Type 0 where
  pub consumes : Consumes old.remaining new.remaining bytes
  pub failures : new.failures ≡ old.failures

-- fewer bytes than so many were taken, and the reader stopped
pub record TakesFewer (old new : SourceState) (size : ℕ) : Type 0 where
  pub taken : List ℕ
  pub fewer : length taken < size
  pub consumes : Consumes old.remaining new.remaining taken
  pub stopped : HasStopped old new

-- just these bytes were taken, or fewer
abbrev pub Fills : {A : Type 0} → List ℕ → SourceState → SourceState → Result A SerializationError → Type 0
Fills bytes old new (Ok _) = Takes old new bytes
Fills bytes old new (Err IoError) = TakesFewer old new (length bytes)
Fills bytes old new (Err InvalidData) = ⊥
Fills bytes old new (Err Memory) = ⊥

-- a value was read: exactly a spelling of it was taken
pub record TakesSpelling {X : Type 0} (format : Format X) (old new : SourceState) (value : X) : Type 0 where
  pub has : format.HasSpelling value
  pub takes : Takes old new (format.spelling value)

-- the bytes that were taken are a fault
pub record TakesFault {X : Type 0} (format : Format X) (old new : SourceState) : Type 0 where
  pub taken : List ℕ
  pub takes : Takes old new taken
  pub fault : format.IsFault taken

-- the reader stopped before a value or a fault ended
pub record TakesLess {X : Type 0} (format : Format X) (old new : SourceState) : Type 0 where
  pub taken : List ℕ
  pub consumes : Consumes old.remaining new.remaining taken
  pub unfinished : IsUnfinished format taken
  pub stopped : HasStopped old new

-- what a refused reading took. `Memory` comes only where reading takes memory, and nothing more is said of it
abbrev pub Refuses : {X : Type 0} → Format X → Type 0 → SourceState → SourceState → SerializationError → Type 0
Refuses format TakesMemory old new IoError = TakesLess format old new
Refuses format TakesMemory old new InvalidData = TakesFault format old new
Refuses format TakesMemory old new Memory = TakesMemory

-- what a call that reads a value did, where clauses see the value by `view`
abbrev pub ReadsAs : {V X : Type 0} → (V → X) → Format X → Type 0 → SourceState → SourceState → Result V SerializationError → Type 0
ReadsAs view format TakesMemory old new (Ok value) = TakesSpelling format old new (view value)
ReadsAs view format TakesMemory old new (Err e) = Refuses format TakesMemory old new e

abbrev pub Reads : {X : Type 0} → Format X → Type 0 → SourceState → SourceState → Result X SerializationError → Type 0
Reads format TakesMemory old new result = ReadsAs (λ v. v) format TakesMemory old new result
