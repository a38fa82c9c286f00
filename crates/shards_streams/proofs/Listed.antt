-- What is joined of pieces whose digests are those of a file's.
use Rattle.std.proofs.Common.{◌≡◌, ℕ, zero, suc, ◌<◌, ◌⊎◌, List, ◌++◌, length, take, get_or, arith, ap, sym, ◌∙◌, subst, refl, inl, inr, Option, Some}
use Rattle.std.specs.Io.KnownBytes.{Appends}
use Rattle.std.proofs.Math.Bridge.{le_prop}
use Rattle.std.proofs.lemmas.Bool.{cases_lt}
use Rattle.std.proofs.lemmas.List.{take_at}
use Rattle.sha2.specs.Sha256.{sha256}
use Rattle.ark_bytes.specs.declared.source.Source.{Ghosts}
use Rattle.ark_bytes.specs.Reading.{Takes, source_state}
use Rattle.shards_format.specs.Stripes.{Numbering}
use Rattle.shards_format.specs.Headers.{head_bytes}
use Rattle.shards_format.specs.Pieces.{IsBody, body_size, chunk}
use Rattle.shards_format.specs.Files.{AreDigests}
use Rattle.shards_format.proofs.HeaderLists.{one_body}
use Rattle.shards_format.proofs.TrailerLists.{same_text}
use Rattle.shards_streams.specs.declared.reader.PieceReader.{PieceReader}
use Rattle.shards_streams.specs.Readers.{HasRead, piece_source, reader_state}
use Rattle.shards_streams.specs.Joining.{GaveBody, GaveCollision, HasBody, HasJoined, HasRestored, HaveBodies, HaveHeads}
use Rattle.shards_streams.proofs.PartsRead.{some_item}
use Rattle.shards_streams.proofs.Taken.{known_after}

-- it is the same, however it is known that a number is below a bound
however : {k : ℕ} (P : (a : ℕ) → a < k → Type 0) (a b : ℕ) (l : a < k) (m : b < k) → a ≡ b → P b m → P a l
however {k} P a b l m same p = subst (λ (x : ℕ). (q : x < k) → P x q) (sym same) (λ q. subst (P b) (le_prop m q) p) l

-- what holds of each number below a bound, or else something else does
all_or_else : (k : ℕ) (P : (a : ℕ) → a < k → Type 0) (C : Type 0) → ((a : ℕ) (l : a < k) → P a l ⊎ C) → ((a : ℕ) (l : a < k) → P a l) ⊎ C
all_or_else zero P C each = inl (λ a l. absurd (omega (arith, l)))
all_or_else (suc k) P C each =
    let wider : (a : ℕ) → a < k → a < suc k = λ a l. omega (arith, l) in
    let top : k < suc k = omega arith in
    elim (each k top) [
      | inr other ↦ inr other
      | inl last ↦ elim (all_or_else k (λ a l. P a (wider a l)) C (λ a l. each a (wider a l))) [
        | inr other ↦ inr other
        | inl before ↦ inl (λ a l. elim (cases_lt a k) [
          | inl less ↦ however P a a l (wider a less) refl (before a less)
          | inr more ↦ however P a k l top (omega (arith, l, more)) last
        ])
      ]
    ]

-- a reader with the body of a file's piece gave it
pub gave_file : {R : Type 0} (source : Ghosts R) (number : Numbering) (k n place len a : ℕ) (old new : List (PieceReader R)) (d : PieceReader R) (gave : GaveBody source k place len a old new) (file : List ℕ)
    → length file ≡ len → HasBody number k n file place (reader_state source (get_or old a d)).remaining → IsBody number k n file place gave.body
gave_file source number k n place len a old new d gave file size own =
    let all = known_after (reader_state source (get_or old a d)) (reader_state source (get_or new a d)) (own.body ++ own.rest) gave.body own.is (gave.gave d).takes in
    let same : length own.body ≡ length gave.body = own.body_is.len ∙ ap (body_size k place) size ∙ sym gave.len_is in
    let one : own.body ≡ gave.body = sym (take_at own.body own.rest (length own.body) refl) ∙ ap (take (length own.body)) all.1.1 ∙ take_at gave.body all.0 (length own.body) (sym same) in
    subst (IsBody number k n file place) one own.body_is

-- a reader with this body gave it
pub gave_own : {R : Type 0} (source : Ghosts R) (k place len a : ℕ) (old new : List (PieceReader R)) (d : PieceReader R) (gave : GaveBody source k place len a old new) (body rest : List ℕ)
    → (reader_state source (get_or old a d)).remaining ≡ Some (body ++ rest) → length body ≡ body_size k place len → (head : List ℕ) → HasRead (get_or old a d) head → HasRead (get_or new a d) (head ++ body)
gave_own source k place len a old new d gave body rest is size head held =
    let all = known_after (reader_state source (get_or old a d)) (reader_state source (get_or new a d)) (body ++ rest) gave.body is (gave.gave d).takes in
    let same : length body ≡ length gave.body = size ∙ sym gave.len_is in
    let one : body ≡ gave.body = sym (take_at body rest (length body) refl) ∙ ap (take (length body)) all.1.1 ∙ take_at gave.body all.0 (length body) (sym same) in
    subst (λ (x : List ℕ). HasRead (get_or new a d) (head ++ x)) (sym one) ((gave.gave d).hashed head held)

module _ {R : Type 0} (source : Ghosts R) (number : Numbering) (k n : ℕ) (places digests : List ℕ) (len : ℕ) (old new : List (PieceReader R)) (s t : Option (List ℕ)) where
  -- readers with the bodies of a file's pieces gave them
  pub restored_file : HasRestored source number k n places len old new s t → 0 < k → length old ≡ k → (file : List ℕ) → ((i : ℕ) → get_or file i 0 < 256) → length file ≡ len
      → HaveBodies source number k n file places old → Appends s t file
  restored_file restored some count file small size have =
      let d = some_item old (subst (λ m. 0 < m) (sym count) some) in
      subst (Appends s t) (restored.file file small size (λ a l. gave_file source number k n (get_or places a 0) len a old new d (restored.each a l) file size (have a d l))) restored.appends

  -- each body has its digest
  pub all_compared : HasRestored source number k n places len old new s t → length old ≡ k
      → ((a : ℕ) (d : PieceReader R) (text : List ℕ) → a < length new → HasRead (get_or new a d) text → chunk 32 (get_or places a 0) digests ≡ sha256 text) → length new ≡ k
      → HasJoined source number k n places digests len old s t
  all_compared restored count listed kept = record {
    each = λ a l.
        let gave = restored.each a l in
        record {
          body = gave.body;
          len_is = gave.len_is;
          listed = λ d head held. listed a d (head ++ gave.body) (subst (λ m. a < m) (sym kept) l) ((gave.gave d).hashed head held);
        };
    written = restored.written;
    written_len = restored.written_len;
    appends = restored.appends;
    file = restored.file;
  }

  module _ (restored : HasRestored source number k n places len old new s t) (some : 0 < k) (count : length old ≡ k) (below : (a : ℕ) → a < length places → get_or places a 0 < n) (places_len : length places ≡ k)
      (listed : (a : ℕ) (d : PieceReader R) (text : List ℕ) → a < length new → HasRead (get_or new a d) text → chunk 32 (get_or places a 0) digests ≡ sha256 text) (all : length new ≡ k) (compared : List (PieceReader R))
      (kept : (a : ℕ) (d : PieceReader R) → a < length new → piece_source (get_or compared a d) ≡ piece_source (get_or new a d)) where
    -- the body that was given is that of the file's piece, or collides with it
    own_body : (label bytes : List ℕ) → AreDigests number k n label bytes digests → length label < 65536 → length bytes ≡ len → (heads : HaveHeads k n places old) → (a : ℕ) (l : a < k)
        → IsBody number k n bytes (get_or places a 0) (restored.each a l).body ⊎ GaveCollision source number k n label bytes places old compared heads
    own_body label bytes D short size heads a l =
        let place = get_or places a 0 in
        let d = some_item old (subst (λ m. 0 < m) (sym count) some) in
        let head = heads a d l in
        let text = head_bytes k n place head.0 in
        let gave = restored.each a l in
        let own = D.each place (below a (subst (λ m. a < m) (sym places_len) l)) in
        let within : a < length new = subst (λ m. a < m) (sym all) l in
        let digest = listed a d (text ++ gave.body) within ((gave.gave d).hashed text head.2) in
        elim (same_text (text ++ gave.body) (head_bytes k n place label ++ own.body) (sym digest ∙ own.digest_is)) [
          | inl same ↦ inl (subst (IsBody number k n bytes place) (sym (one_body k n place head.0 label gave.body own.body head.1 short same)) own.body_is)
          | inr collide ↦ inr (record {
            a = a;
            d = d;
            inside = l;
            body = gave.body;
            len_is = gave.len_is ∙ ap (body_size k place) (sym size);
            takes = subst (λ (r : R). Takes (reader_state source (get_or old a d)) (source_state source.remaining source.failures r) gave.body) (sym (kept a d within)) (gave.gave d).takes;
            collides = record { body = own.body; body_is = own.body_is; collide = collide };
          })
        ]

    pub file_or_collision : (label bytes : List ℕ) → ((i : ℕ) → get_or bytes i 0 < 256) → AreDigests number k n label bytes digests → length label < 65536 → length bytes ≡ len → (heads : HaveHeads k n places old)
        → Appends s t bytes ⊎ GaveCollision source number k n label bytes places old compared heads
    file_or_collision label bytes small D short size heads =
        elim (all_or_else k (λ a l. IsBody number k n bytes (get_or places a 0) (restored.each a l).body) (GaveCollision source number k n label bytes places old compared heads) (own_body label bytes D short size heads)) [
          | inl bodies ↦ inl (subst (Appends s t) (restored.file bytes small size bodies) restored.appends)
          | inr collision ↦ inr collision
        ]
