-- What a call that writes a value did to the writer's bytes.
use Rattle.std.specs.Prelude.{◌≡◌, ℕ, ◌+◌, List, Option, Result, Ok, Err}
use Rattle.std.specs.Io.KnownBytes.{Appends}
use Rattle.ark_math_formats.specs.Format.{Format}
use Rattle.ark_bytes.specs.Transfer.{AppendsBeginning}
use Rattle.ark_bytes.specs.declared.error.SerializationError.{SerializationError}
use Rattle.ark_bytes.specs.declared.error.SerializationError.TheVariants.{IoError, InvalidData, Memory}

-- what a call sees of a writer: the bytes that it holds, where they are known, and how often it failed
pub record SinkState : Type 0 where
  pub contents : Option (List ℕ)
  pub failures : ℕ

abbrev pub sink_state : {S : Type 0} → (S → Option (List ℕ)) → (S → ℕ) → S → SinkState
sink_state contents failures s = record { contents = contents s; failures = failures s }

-- these bytes were written, and no call of the writer failed
pub record Puts (old new : SinkState) (bytes : List ℕ) : Type 0 where
  pub appends : Appends old.contents new.contents bytes
  pub failures : new.failures ≡ old.failures

-- a value was written: exactly its spelling was appended
pub record PutsSpelling {X : Type 0} (format : Format X) (old new : SinkState) (value : X) : Type 0 where
  pub has : format.HasSpelling value
  pub puts : Puts old new (format.spelling value)

-- a call of the writer failed, and a beginning of these bytes was appended
pub record FailsWithin (bytes : List ℕ) (old new : SinkState) : Type 0 where
  pub appends : AppendsBeginning old.contents new.contents bytes
  pub failures : new.failures ≡ old.failures + 1

-- writing these bytes stopped: the writer failed, and there is no other error
abbrev pub Stops : List ℕ → SinkState → SinkState → SerializationError → Type 0
Stops bytes old new IoError = FailsWithin bytes old new
Stops bytes old new InvalidData = ⊥
Stops bytes old new Memory = ⊥

-- what a call that writes a value did
abbrev pub Writes : {X A : Type 0} → Format X → X → SinkState → SinkState → Result A SerializationError → Type 0
Writes format value old new (Ok _) = PutsSpelling format old new value
Writes format value old new (Err e) = Stops (format.spelling value) old new e
