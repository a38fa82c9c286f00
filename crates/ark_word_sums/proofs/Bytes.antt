-- Proofs in bytes: what the values of rounds spell, how long that is, and what is read of bytes.
use Rattle.std.proofs.Common.{◌≡◌, ◌≢◌, ℕ, ◌+◌, ◌*◌, ◌^◌, ◌<◌, ◌≤◌, List, [], ◌∷◌, ◌++◌, Some, inl, inr, Vec, Global, length, length-append, map, append-nil, refl, sym, ap, ap₂, subst, ◌∙◌, arith, suc-mul, zero-mul}
use denote.RawPtr.{null_ptr}
use Rattle.std.specs.List.{AllByRecursion, flat_map}
use Rattle.std.proofs.lemmas.List.{length-map, nil_from_length}
use Rattle.std.proofs.lemmas.Nat.{mul-le}
use Rattle.ark_math.specs.Field.{FieldOn}
use Rattle.ark_math_formats.specs.Format.{Format, HaveSpellings, IsFormat, IsSpelled, list, word, AreElements}
use Rattle.ark_math_formats.proofs.Formats.Ends.{fault_not_front, spelled}
use Rattle.ark_bytes.specs.Reading.{HasStopped, Refuses, SourceState, TakesSpelling}
use Rattle.ark_bytes.specs.declared.error.SerializationError.{SerializationError}
use Rattle.ark_bytes.specs.declared.error.SerializationError.TheVariants.{IoError, InvalidData, Memory}
use Rattle.ark_sum_check.specs.Cube.{SumOfProducts, bound_to}
use Rattle.ark_sum_check.specs.Rounds.{AreTrueRounds, Round, rounds_at}
use Rattle.ark_fiat_shamir.specs.ProofBytes.{proof_format, round_format}
use Rattle.ark_fiat_shamir.specs.Sent.{sent}
use Rattle.ark_fiat_shamir.specs.declared.proof.SumCheckProof.{SumCheckProof}

module _ {F : Type 0} (e : Format F) where
  rounds_sent : (vs : List (Vec F Global)) → flat_map (round_format e).spelling vs ≡ flat_map (list e).spelling (map (λ v. v.items) vs)
  rounds_sent [] = refl
  rounds_sent (v ∷ vs) = ap (λ bytes. (list e).spelling v.items ++ bytes) (rounds_sent vs)

  -- a proof spells its rounds' values
  pub sent_spelled : (p : SumCheckProof F) → (proof_format e).spelling p ≡ (list (list e)).spelling (sent p)
  sent_spelled p =
      ap₂ (λ n bytes. word.spelling n ++ bytes) (sym (length-map p.rounds.items (λ v. v.items))) (rounds_sent p.rounds.items)

-- the values of rounds, where there are as many challenges
pub values_at : {F : Type 0} (vs : List (Vec F Global)) (xs : List F) → length vs ≡ length xs → map (λ r. r.values) (rounds_at vs xs) ≡ map (λ v. v.items) vs
values_at [] xs same = refl
values_at (v ∷ vs) [] same = absurd (omega (arith, same))
values_at (v ∷ vs) (x ∷ xs) same = ap (λ us. v.items ∷ us) (values_at vs xs (omega (arith, same)))

module _ {F : Type 0} (K : FieldOn F) (e : Format F) (size : ℕ) (A : AreElements e size) where
  elements_length : (xs : List F) → length (flat_map e.spelling xs) ≡ length xs * size
  elements_length [] = sym (zero-mul size)
  elements_length (x ∷ xs) =
      omega (arith, length-append (e.spelling x) (flat_map e.spelling xs), A.lengths x, elements_length xs, suc-mul (length xs) size)

  -- how many bytes a list spells
  pub list_length : (xs : List F) → length ((list e).spelling xs) ≡ 8 + length xs * size
  list_length xs = length-append (word.spelling (length xs)) (flat_map e.spelling xs) ∙ ap (λ n. 8 + n) (elements_length xs)

  rounds_length : (d : ℕ) (s : SumOfProducts F) (rs : List (Round F)) → AreTrueRounds K d s rs → length (flat_map (list e).spelling (map (λ r. r.values) rs)) ≡ length rs * (8 + (d + 1) * size)
  rounds_length d s [] h = sym (zero-mul (8 + (d + 1) * size))
  rounds_length d s (r ∷ rs) h =
      let first : length ((list e).spelling r.values) ≡ 8 + (d + 1) * size = list_length r.values ∙ ap (λ n. 8 + n * size) h.0.count in
      omega (
        arith,
        length-append ((list e).spelling r.values) (flat_map (list e).spelling (map (λ r. r.values) rs)),
        first,
        rounds_length d (bound_to K r.challenge s) rs h.1,
        suc-mul (length rs) (8 + (d + 1) * size),
      )

  -- how many bytes the values of true rounds spell
  pub proof_length : (d : ℕ) (s : SumOfProducts F) (rs : List (Round F)) → AreTrueRounds K d s rs → length ((list (list e)).spelling (map (λ r. r.values) rs)) ≡ 8 + length rs * (8 + (d + 1) * size)
  proof_length d s rs h =
      length-append (word.spelling (length (map (λ (r : Round F). r.values) rs))) (flat_map (list e).spelling (map (λ r. r.values) rs))
      ∙ ap (λ n. 8 + n) (rounds_length d s rs h)

-- ---- what is read, and what is refused

-- a reader of these bytes, which never fails
abbrev reader_of : List ℕ → SourceState
reader_of bytes = record { remaining = Some bytes; failures = 0 }

module _ {X : Type 0} (e : Format X) (bytes rest : List ℕ) where
  pub read_all : (x : X) → length rest ≡ 0 → TakesSpelling e (reader_of bytes) (reader_of rest) x → bytes ≡ e.spelling x
  read_all x none t =
      t.takes.consumes ∙ ap (λ l. e.spelling x ++ l) (nil_from_length rest none) ∙ append-nil (e.spelling x)

  ended : HasStopped (reader_of bytes) (reader_of rest) → rest ≡ []
  ended (inl more) = absurd (omega (arith, more))
  ended (inr end) = end

  -- what begins with a spelling and is one is that spelling
  pub nothing_left : IsFormat e → (x : X) → TakesSpelling e (reader_of bytes) (reader_of rest) x → IsSpelled e bytes → length rest ≡ 0
  nothing_left I x t s =
      let same : e.spelling x ≡ bytes =
      I.one_end (e.spelling x) bytes rest [] (inl (spelled e x t.has)) (inl s) (sym t.takes.consumes ∙ sym (append-nil bytes)) in
      omega (arith, ap length t.takes.consumes, length-append (e.spelling x) rest, ap length same)

  -- no spelling is refused where there is memory
  pub refused_bytes : IsFormat e → (M : Type 0) (error : SerializationError) → error ≢ Memory → Refuses e M (reader_of bytes) (reader_of rest) error → IsSpelled e bytes → ⊥
  refused_bytes I M IoError other r s =
      let all : bytes ≡ r.taken = r.consumes ∙ ap (λ l. r.taken ++ l) (ended r.stopped) ∙ append-nil r.taken in
      r.unfinished r.taken [] (sym (append-nil r.taken)) (inl (subst (IsSpelled e) all s))
  refused_bytes I M InvalidData other r s =
      fault_not_front e I r.taken bytes rest [] r.fault s (sym r.takes.consumes ∙ sym (append-nil bytes))
  refused_bytes I M Memory other r s = other refl

-- a vector of these items: reading is said of vectors, and what bytes spell of lists
vector_of : {X : Type 0} → Global → (xs : List X) → length xs < 2 ^ 63 → Vec X Global
vector_of alloc xs few =
    record { ptr = null_ptr; len = length xs; cap = length xs; alloc = alloc; items = xs; ok = (refl, omega arith); small = few }

module _ {F : Type 0} where
  vectors_of : Global → (rounds : List (List F)) → AllByRecursion (λ us. length us < 2 ^ 63) rounds → List (Vec F Global)
  vectors_of alloc [] few = []
  vectors_of alloc (us ∷ rounds) few = vector_of alloc us few.0 ∷ vectors_of alloc rounds few.1

  items_of_vectors : (alloc : Global) (rounds : List (List F)) (few : AllByRecursion (λ us. length us < 2 ^ 63) rounds)
      → map (λ v. v.items) (vectors_of alloc rounds few) ≡ rounds
  unfolding vector_of vectors_of
  items_of_vectors alloc [] few = refl
  items_of_vectors alloc (us ∷ rounds) few = ap (λ vs. us ∷ vs) (items_of_vectors alloc rounds few.1)

module _ {F : Type 0} (K : FieldOn F) (e : Format F) (size : ℕ) (A : AreElements e size) (alloc : Global) where
  have_elements : (xs : List F) → HaveSpellings e xs
  have_elements [] = tt
  have_elements (x ∷ xs) = (A.all x, have_elements xs)

  have_rounds : (rounds : List (List F)) (few : AllByRecursion (λ us. length us < 2 ^ 63) rounds) → HaveSpellings (round_format e) (vectors_of alloc rounds few)
  unfolding vector_of vectors_of
  have_rounds [] few = tt
  have_rounds (us ∷ rounds) few =
      let counts : length us < 256 ^ 8 = omega (arith, few.0) in
      (((counts, have_elements us), tt), have_rounds rounds few.1)

  -- no round has more values than bytes, and there are no more rounds than bytes
  few_values : (rounds : List (List F)) → length (flat_map (list e).spelling rounds) < 2 ^ 63 → AllByRecursion (λ us. length us < 2 ^ 63) rounds
  few_values [] small = tt
  few_values (us ∷ rounds) small =
      let both = length-append ((list e).spelling us) (flat_map (list e).spelling rounds) in
      let least = mul-le (length us) 1 (length us) size (omega arith) (omega (arith, A.positive)) in
      (omega (arith, small, both, list_length K e size A us, least), few_values rounds (omega (arith, small, both)))

  few_rounds : (rounds : List (List F)) → length rounds ≤ length (flat_map (list e).spelling rounds)
  few_rounds [] = omega arith
  few_rounds (us ∷ rounds) =
      omega (arith, length-append ((list e).spelling us) (flat_map (list e).spelling rounds), list_length K e size A us, few_rounds rounds)

  -- where rounds and their values are as few as vectors may have
  few_spelled : (rounds : List (List F)) → AllByRecursion (λ us. length us < 2 ^ 63) rounds → length rounds < 2 ^ 63 → IsSpelled (proof_format e) ((list (list e)).spelling rounds)
  unfolding vector_of
  few_spelled rounds few small =
      let vs = vectors_of alloc rounds few in
      let items = items_of_vectors alloc rounds few in
      let count : length vs ≡ length rounds = sym (length-map vs (λ v. v.items)) ∙ ap length items in
      let p : SumCheckProof F = record { rounds = vector_of alloc vs (omega (arith, count, small)) } in
      let counts : length vs < 256 ^ 8 = omega (arith, count, small) in
      record {
        value = p;
        has = ((counts, have_rounds rounds few), tt);
        is = sym (sent_spelled e p ∙ ap (list (list e)).spelling items);
      }

  -- what rounds spell, a proof spells
  pub proof_spelled : (bytes : List ℕ) → length bytes < 2 ^ 63 → (rounds : List (List F)) → bytes ≡ (list (list e)).spelling rounds → IsSpelled (proof_format e) bytes
  proof_spelled bytes small rounds is =
      let both = length-append (word.spelling (length rounds)) (flat_map (list e).spelling rounds) in
      let inside : length (flat_map (list e).spelling rounds) < 2 ^ 63 = omega (arith, small, ap length is, both) in
      subst (IsSpelled (proof_format e)) (sym is)
      (few_spelled rounds (few_values rounds inside) (omega (arith, few_rounds rounds, inside)))
