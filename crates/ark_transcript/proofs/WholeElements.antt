-- Bytes that are as many as an element has spell it where it was read of them, and spell none where that was refused.
use Rattle.std.proofs.Common.{◌≡◌, ◌≢◌, ℕ, List, [], ◌++◌, length, Some, None, arith, sym, ◌∙◌, ap, inl, inr, append-nil, Option}
use Rattle.std.specs.Io.KnownBytes.{Consumes, IsAtEnd}
use Rattle.std.proofs.lemmas.List.{length-append, nil_from_length}
use Rattle.ark_math_formats.specs.Format.{Format, IsFormat, AreElements}
use Rattle.ark_math_formats.proofs.Formats.Ends.{fault_not_front, spelled}
use Rattle.ark_bytes.specs.Reading.{SourceState, Refuses, HasStopped, TakesSpelling}
use Rattle.ark_bytes.specs.declared.error.SerializationError.{SerializationError}
use Rattle.ark_bytes.specs.declared.error.SerializationError.TheVariants.{IoError, InvalidData, Memory}

-- what was taken, and the rest
taken_of : (bytes taken : List ℕ) (left : Option (List ℕ)) → Consumes (Some bytes) left taken → (rest : List ℕ) × (bytes ≡ taken ++ rest)
taken_of bytes taken None c = absurd c
taken_of bytes taken (Some rest) c = (rest, c)

taken_all : (bytes taken : List ℕ) (left : Option (List ℕ)) → Consumes (Some bytes) left taken → IsAtEnd left → bytes ≡ taken
taken_all bytes taken None c end = absurd c
taken_all bytes taken (Some rest) c end = c ∙ ap (λ l. taken ++ l) end ∙ append-nil taken

module _ {F : Type 0} (e : Format F) (size : ℕ) (A : AreElements e size) (I : IsFormat e) (bytes : List ℕ) (b : SourceState) where
  abbrev start : SourceState
  start = record { remaining = Some bytes; failures = 0 }

  pub read_whole : (x : F) → length bytes ≡ size → TakesSpelling e start b x → bytes ≡ e.spelling x
  read_whole x long t =
      let (rest, is) = taken_of bytes (e.spelling x) b.remaining t.takes.consumes in
      let none : rest ≡ [] =
      nil_from_length rest (omega (arith, long, ap length is, length-append (e.spelling x) rest, A.lengths x)) in
      is ∙ ap (λ l. e.spelling x ++ l) none ∙ append-nil (e.spelling x)

  ended : HasStopped start b → b.failures ≡ 0 → IsAtEnd b.remaining
  ended (inl more) same = absurd (omega (arith, more, same))
  ended (inr end) same = end

  pub refused_whole : (M : Type 0) (r : SerializationError) → (M → ⊥) → b.failures ≡ 0 → Refuses e M start b r → (x : F) → bytes ≢ e.spelling x
  refused_whole M IoError never same r x is =
      let all = taken_all bytes r.taken b.remaining r.consumes (ended r.stopped same) in
      r.unfinished r.taken [] (sym (append-nil r.taken)) (inl (record { value = x; has = A.all x; is = sym all ∙ is }))
  refused_whole M InvalidData never same r x is =
      let (rest, splits) = taken_of bytes r.taken b.remaining r.takes.consumes in
      fault_not_front e I r.taken (e.spelling x) rest [] r.fault (spelled e x (A.all x)) (sym splits ∙ is ∙ sym (append-nil (e.spelling x)))
  refused_whole M Memory never same r x is = never r
