-- The bodies of pieces, a block at a time.
use Rattle.std.proofs.Common.{◌≡◌, ℕ, ◌+◌, ◌*◌, ◌<◌, ◌≤◌, min, Bool, true, false, List, [], ◌++◌, length, get_or, arith, sym, ◌∙◌, ap, subst, refl, length-append, append-nil, Option, inl, inr}
use Rattle.std.specs.Io.KnownBytes.{Consumes, IsAtEnd}
use Rattle.std.proofs.KnownBytes.{Consumes-nil, Consumes-trans}
use Rattle.std.proofs.lemmas.List.{nil_from_length}
use Rattle.std.proofs.lemmas.Bool.{cases_eq}
use Rattle.ark_bytes.specs.declared.sink.Sink.{Ghosts}
use Rattle.ark_bytes.specs.Reading.{SourceState, Takes}
use Rattle.ark_bytes.proofs.Reading.{Takes-nil, Takes-trans}
use Rattle.shards_format.specs.Stripes.{Numbering, numbers_at}
use Rattle.shards_format.specs.Parts.{IsPart}
use Rattle.shards_format.specs.Pieces.{IsBody, block_size, blocks, body_size, chunk, part_size}
use Rattle.shards_format.specs.Files.{HaveParts}
use Rattle.shards_format.proofs.FileLists.{rounded_more, rounded_few, rounded_one, chunk_before, chunk_next, no_parts, parts_more, whole_body}
use Rattle.shards_streams.specs.declared.writer.PieceWriter.{PieceWriter}
use Rattle.shards_streams.specs.Splitting.{TookParts, TookBlock, TookBlockSome, TookBody, TookBodySome, TookBodiesSome}
use Rattle.shards_streams.proofs.Writers.{took_nothing, took_both, some_after, some_of_all}

-- whole blocks
whole_blocks : (k b : ℕ) → 0 < k → blocks k (b * block_size k) ≡ b
whole_blocks k b some =
    let size : 0 < block_size k = omega arith in
    let none = rounded_few 0 (block_size k) 0 size (omega arith) in
    let zero_is : b * block_size k + 0 ≡ b * block_size k = omega arith in
    ap (blocks k) (sym zero_is) ∙ rounded_more b 0 (block_size k) size ∙ (let e : (m : ℕ) → m ≤ 0 → b + m ≡ b = λ m h. omega (arith, h) in e _ none)

module _ (number : Numbering) (k n i : ℕ) (some : 0 < k) where
  pub no_body : IsBody number k n [] i []
  no_body =
      let zero_is : 0 ≡ 0 * block_size k = omega arith in
      let none : blocks k 0 ≡ 0 = ap (blocks k) zero_is ∙ whole_blocks k 0 some in
      whole_body number k n [] i some [] (subst (λ b. HaveParts number k n [] i b []) (sym none) (no_parts number k n [] i some))

  -- the body of whole blocks, and a part more
  body_and_part : (b : ℕ) (read block body part : List ℕ) → length read ≡ b * block_size k → 0 < length block → length block ≤ block_size k
      → IsBody number k n read i body → IsPart k i (numbers_at number k n block i) part → IsBody number k n (read ++ block) i (body ++ part)
  body_and_part b read block body part len more few is is_part =
      let size = block_size k in
      let size_some : 0 < size = omega (arith, some) in
      let all = read ++ block in
      let len_all : length all ≡ b * size + length block = length-append read block ∙ ap (λ m. m + length block) len in
      let count : blocks k (length all) ≡ b + 1 =
      ap (blocks k) len_all ∙ rounded_more b (length block) size size_some ∙ ap (λ x. b + x) (rounded_one (length block) size more few) in
      let before : blocks k (length read) ≡ b = ap (blocks k) len ∙ whole_blocks k b some in
      let upto : min (b * size) (length all) ≡ b * size = omega (arith, len_all) in
      let have : HaveParts number k n all i b body = record {
        len = is.len ∙ ap (body_size k i) (len ∙ sym upto);
        parts = λ a h. subst (λ c. IsPart k i (numbers_at number k n c i) (chunk (part_size k i) a body)) (sym (chunk_before size a b read block len h))
            (is.parts a (subst (λ m. a < m) (sym before) h));
      } in
      let below : b < blocks k (length all) = omega (arith, count) in
      let one_more : HaveParts number k n all i (b + 1) (body ++ part) = parts_more number k n all i some b body part below have
      (subst (λ c. IsPart k i (numbers_at number k n c i) part) (sym (chunk_next size b read block len few)) is_part) in
      whole_body number k n all i some (body ++ part) (subst (λ m. HaveParts number k n all i m (body ++ part)) (sym count) one_more)

module _ {W : Type 0} (sink : Ghosts W) (number : Numbering) (k n : ℕ) where
  -- so many bytes were read, whole blocks where there may be more, and each writer took its body of them
  pub record TookSoFar (len : ℕ) (more : Bool) (before after : SourceState) (old new : List (PieceWriter W)) : Type 0 where
    pub bytes : List ℕ
    pub len_is : length bytes ≡ len
    pub takes : Takes before after bytes
    pub whole : more ≡ true → (b : ℕ) × (len ≡ b * block_size k)
    pub end : more ≡ false → IsAtEnd after.remaining
    pub each : (i : ℕ) (d : PieceWriter W) → i < n → TookBody sink number k n bytes i (get_or old i d) (get_or new i d)

module _ {W : Type 0} (sink : Ghosts W) (number : Numbering) (k n : ℕ) where
  -- what was read so far
  pub begun_so_far : (len : ℕ) (more : Bool) (s t : SourceState) (old new : List (PieceWriter W)) → TookSoFar sink number k n len more s t old new → TookBodiesSome sink number k n s.remaining t.remaining old new
  begun_so_far len more s t old new took = record {
    read = took.bytes;
    more = [];
    consumes = subst (λ (xs : List ℕ). Consumes s.remaining t.remaining xs) (sym (append-nil took.bytes)) took.takes.consumes;
    each = λ i d h. let body = took.each i d h in record { body = body.body; is = body.is; took = some_of_all sink (get_or old i d) (get_or new i d) body.body body.took };
  }

module _ {W : Type 0} (sink : Ghosts W) (number : Numbering) (k n : ℕ) (some : 0 < k) where
  pub none_so_far : (s : SourceState) (ws : List (PieceWriter W)) → TookSoFar sink number k n 0 true s s ws ws
  none_so_far s ws = record {
    bytes = [];
    len_is = refl;
    takes = Takes-nil s;
    whole = λ _. (0, omega arith);
    end = λ bad. cc bad;
    each = λ i d h. record { body = []; is = no_body number k n i some; took = took_nothing sink (get_or ws i d) };
  }

  -- nothing was read
  pub nothing_read : (s : Option (List ℕ)) (ws : List (PieceWriter W)) → TookBodiesSome sink number k n s s ws ws
  nothing_read s ws = record {
    read = [];
    more = [];
    consumes = Consumes-nil s;
    each = λ i d h. record { body = []; is = no_body number k n i some; took = some_of_all sink (get_or ws i d) (get_or ws i d) [] (took_nothing sink (get_or ws i d)) };
  }

  module _ (len : ℕ) (s t : SourceState) (old mid : List (PieceWriter W)) (took : TookSoFar sink number k n len true s t old mid) where
    read_len : (b : ℕ) → len ≡ b * block_size k → length took.bytes ≡ b * block_size k
    read_len b is = took.len_is ∙ is

    one_more : (block : List ℕ) (new : List (PieceWriter W)) → 0 < length block → length block ≤ block_size k → TookParts sink number k n block mid new
        → (i : ℕ) (d : PieceWriter W) → i < n → TookBody sink number k n (took.bytes ++ block) i (get_or old i d) (get_or new i d)
    one_more block new more few parts i d h =
        let body = took.each i d h in
        let part = parts i d h in
        let b = took.whole refl in
        record {
          body = body.body ++ part.part;
          is = body_and_part number k n i some b.0 took.bytes block body.body part.part (read_len b.0 b.1) more few body.is part.is;
          took = took_both sink (get_or old i d) (get_or mid i d) (get_or new i d) body.body part.part body.took part.took;
        }

    pub block_more : (count : ℕ) (more : Bool) (u : SourceState) (new : List (PieceWriter W)) → count ≤ block_size k → (more ≡ true → count ≡ block_size k) → (more ≡ false → count < block_size k)
        → TookBlock sink number k n count t u mid new → TookSoFar sink number k n (len + count) more s u old new
    block_more count more u new few full short next = record {
      bytes = took.bytes ++ next.block;
      len_is = length-append took.bytes next.block ∙ omega (arith, took.len_is, next.len_is);
      takes = Takes-trans s t u took.bytes next.block took.takes next.takes;
      whole = λ e. (let b = took.whole refl in (b.0 + 1, omega (arith, b.1, full e)));
      end = λ e. next.end (short e);
      each = elim (cases_eq count 0) [
        | inl none ↦
            let nil : next.block ≡ [] = nil_from_length next.block (next.len_is ∙ none) in
            let same : took.bytes ++ next.block ≡ took.bytes = ap (λ xs. took.bytes ++ xs) nil ∙ append-nil took.bytes in
            λ i d h. subst (λ (xs : List ℕ). TookBody sink number k n xs i (get_or old i d) (get_or new i d)) (sym same)
            (subst (λ (ws : List (PieceWriter W)). TookBody sink number k n took.bytes i (get_or old i d) (get_or ws i d)) (sym (next.none none)) (took.each i d h))
        | inr some_count ↦
            let more_than : 0 < count = omega (arith, some_count) in
            one_more next.block new (omega (arith, next.len_is, more_than)) (omega (arith, next.len_is, few)) (next.parts more_than)
      ];
    }

    -- the source or a writer stopped, or memory was refused
    pub block_stopped : (u : Option (List ℕ)) (new : List (PieceWriter W)) → TookBlockSome sink number k n t.remaining u mid new → TookBodiesSome sink number k n s.remaining u old new
    block_stopped u new next = elim next.parts [
      | inl same ↦ record {
        read = took.bytes;
        more = next.block;
        consumes = Consumes-trans s.remaining t.remaining u took.bytes next.block took.takes.consumes next.consumes;
        each = λ i d h.
            let body = took.each i d h in
            subst (λ (ws : List (PieceWriter W)). TookBodySome sink number k n took.bytes i (get_or old i d) (get_or ws i d)) (sym same)
            (record { body = body.body; is = body.is; took = some_of_all sink (get_or old i d) (get_or mid i d) body.body body.took });
      }
      | inr parts ↦ record {
        read = took.bytes ++ next.block;
        more = [];
        consumes = subst (λ (xs : List ℕ). Consumes s.remaining u xs) (sym (append-nil (took.bytes ++ next.block)))
            (Consumes-trans s.remaining t.remaining u took.bytes next.block took.takes.consumes next.consumes);
        each = λ i d h.
            let body = took.each i d h in
            let part = parts.2 i d h in
            let b = took.whole refl in
            record {
              body = body.body ++ part.part;
              is = body_and_part number k n i some b.0 took.bytes next.block body.body part.part (read_len b.0 b.1) parts.0 parts.1 body.is part.is;
              took = some_after sink (get_or old i d) (get_or mid i d) (get_or new i d) body.body part.part body.took part.took;
            };
      }
    ]
