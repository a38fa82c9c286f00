-- What a writer took of a text, and the status of the call that wrote it.
use Rattle.std.specs.Prelude.{◌≡◌, ℕ, ◌+◌, ◌⊎◌, Option, List}
use Rattle.std.specs.Io.KnownBytes.{Appends}
use Rattle.ark_bytes.specs.Transfer.{AppendsBeginning}
use Rattle.ark_bytes.specs.declared.sink.Sink.{Ghosts}

-- a writer at one time: the bytes that it holds, where they are known, and how many of its calls failed so far
pub record Writer : Type 0 where
  pub contents : Option (List ℕ)
  pub failures : ℕ

abbrev pub writer : {W : Type 0} → Ghosts W → W → Writer
writer sink out = record { contents = sink.contents out; failures = sink.failures out }

-- it took all of the text, and no call of it failed
abbrev pub TookAll : Writer → Writer → List ℕ → Type 0
TookAll old new text = Appends old.contents new.contents text × (new.failures ≡ old.failures)

-- it took a beginning of the text, and then a call of it failed
abbrev pub TookBeginning : Writer → Writer → List ℕ → Type 0
TookBeginning old new text = AppendsBeginning old.contents new.contents text × (new.failures ≡ old.failures + 1)

-- the result is the text's status where the text was written, and 3 where the writer failed within it
abbrev pub IsWritten : Writer → Writer → List ℕ → ℕ → ℕ → Type 0
IsWritten old new text status result = (TookAll old new text × (result ≡ status)) ⊎ (TookBeginning old new text × (result ≡ 3))

-- this holds of one of the texts, with its status, that P allows
abbrev pub IsOneWritten : (List ℕ → ℕ → Type 0) → Writer → Writer → ℕ → Type 0
IsOneWritten P old new result = (text : List ℕ) × (status : ℕ) × P text status × IsWritten old new text status result
