-- What is read from the bytes of a value that was written.
use Rattle.std.proofs.Common.{◌≡◌, ℕ, List, ◌++◌, Option, Some, None, Result, Ok, Err, IfOk, IsOkUnless, inl, inr, refl, sym, ap, ◌∙◌, append-nil, arith, subst}
use Rattle.std.specs.Io.KnownBytes.{Consumes, IsAtEnd}
use Rattle.ark_math_formats.specs.Format.{Format, IsFormat, IsUnfinished, Tells, AreSpelledAlike, KeepsAlike}
use Rattle.ark_math_formats.proofs.Formats.Ends.{spelled, fault_not_front}
use Rattle.ark_math_formats.proofs.Formats.OneToOne.{shown_front, alike_tells}
use Rattle.ark_bytes.specs.Reading.{SourceState, TakesSpelling, TakesFault, Reads}
use Rattle.ark_bytes.specs.Writing.{SinkState, Puts}
use Rattle.ark_bytes.specs.Recompressing.{Moves}
use Rattle.ark_bytes.specs.declared.error.SerializationError.{SerializationError}
use Rattle.ark_bytes.specs.declared.error.SerializationError.TheVariants.{IoError, InvalidData, Memory}

module _ {X : Type 0} (format : Format X) (F : IsFormat format) where
  same_spelling : (new : Option (List ℕ)) (value read : X) (more : List ℕ) → format.HasSpelling value → format.HasSpelling read → Consumes (Some (format.spelling value ++ more)) new (format.spelling read)
      → AreSpelledAlike format read value
  same_spelling None value read more p q taken = absurd taken
  same_spelling (Some rest) value read more p q taken = record {
    has = q;
    other = p;
    same = (shown_front format format.spelling F (λ x y h k same. same) read value rest more q p (sym taken)).0;
  }

  read_back : (a b : SourceState) (value read : X) (more : List ℕ) → format.HasSpelling value → a.remaining ≡ Some (format.spelling value ++ more) → TakesSpelling format a b read
      → AreSpelledAlike format read value
  read_back a b value read more p known t =
      same_spelling b.remaining value read more p t.has (subst (λ r. Consumes r b.remaining (format.spelling read)) known t.takes.consumes)

  no_fault_in : (new : Option (List ℕ)) (taken : List ℕ) (value : X) (more : List ℕ) → format.HasSpelling value → format.IsFault taken → Consumes (Some (format.spelling value ++ more)) new taken → ⊥
  no_fault_in None taken value more p fault took = took
  no_fault_in (Some rest) taken value more p fault took =
      fault_not_front format F taken (format.spelling value) rest more fault (spelled format value p) (sym took)

  never_faulty : (a b : SourceState) (value : X) (more : List ℕ) → format.HasSpelling value → a.remaining ≡ Some (format.spelling value ++ more) → TakesFault format a b → ⊥
  never_faulty a b value more p known t =
      no_fault_in b.remaining t.taken value more p t.fault (subst (λ r. Consumes r b.remaining t.taken) known t.takes.consumes)

  -- bytes that go on behind a spelling end no reading before it
  not_less : (old new : Option (List ℕ)) (taken : List ℕ) (value : X) (more : List ℕ) → format.HasSpelling value → old ≡ Some (format.spelling value ++ more) → Consumes old new taken → IsAtEnd new
      → IsUnfinished format taken → ⊥
  not_less old None taken value more p known took end unfinished = subst (λ o. Consumes o None taken) known took
  not_less old (Some rest) taken value more p known took end unfinished =
      let whole = subst (λ o. Consumes o (Some rest) taken) known took in
      let all : taken ≡ format.spelling value ++ more = sym (append-nil taken) ∙ ap (λ l. taken ++ l) (sym end) ∙ sym whole in
      unfinished (format.spelling value) more all (inl (spelled format value p))

  -- what is read where the reader has a value's spelling, and maybe more behind it
  pub reads_back : (M : Type 0) (a b : SourceState) (value : X) (more : List ℕ) (r : Result X SerializationError) → format.HasSpelling value → a.remaining ≡ Some (format.spelling value ++ more) → Reads format M a b r
      → IfOk r (λ read. AreSpelledAlike format read value)
  reads_back M a b value more (Ok read) p known t = read_back a b value read more p known t
  reads_back M a b value more (Err error) p known t = tt

  -- and which errors come where no call of the reader fails: none but that memory was refused
  pub reads_unless : (M : Type 0) (a b : SourceState) (value : X) (more : List ℕ) (r : Result X SerializationError) → format.HasSpelling value → a.remaining ≡ Some (format.spelling value ++ more)
      → b.failures ≡ a.failures → Reads format M a b r → IsOkUnless r Memory
  reads_unless M a b value more (Ok read) p known none t = tt
  reads_unless M a b value more (Err IoError) p known none t = absurd (elim t.stopped [
    | inl failed ↦ omega (arith, failed, none)
    | inr end ↦ not_less a.remaining b.remaining t.taken value more p known t.consumes end t.unfinished
  ])
  reads_unless M a b value more (Err InvalidData) p known none t = absurd (never_faulty a b value more p known t)
  reads_unless M a b value more (Err Memory) p known none t = refl

-- what a spelling tells is the same
pub shows_back : {X V : Type 0} (format : Format X) (view : X → V) → Tells view format → (value : X) (r : Result X SerializationError) → IfOk r (λ read. AreSpelledAlike format read value) → IfOk r (λ read. view read ≡ view value)
shows_back format view tells value (Ok read) a = alike_tells format view tells read value a
shows_back format view tells value (Err error) a = tt

-- a value whose spelling in one mode was read, and written in the other one, has that of the value whose spelling was there
pub turned_back : {X A : Type 0} (from to : Format X) → IsFormat to → KeepsAlike to from → (value : X) (more : List ℕ) (u : A) (a b : SourceState) (old new : SinkState) → to.HasSpelling value
    → a.remaining ≡ Some (to.spelling value ++ more) → Moves {A = A} to from a b old new (Ok u) → Puts old new (from.spelling value)
turned_back from to T keeps value more u a b old new p known m =
    let alike = read_back to T a b value m.value more p known m.takes in
    subst (Puts old new) (keeps m.value value alike).same m.writes.puts
