-- Pieces that bytes begin with: their headers and lengths.
use Rattle.std.proofs.Common.{◌≡◌, ℕ, ◌+◌, ◌-◌, ◌*◌, ◌<◌, ◌≤◌, List, ◌++◌, length, take, drop, arith, sym, ◌∙◌, ap, ap₂, refl, length-append, append_assoc}
use Rattle.std.proofs.lemmas.List.{take_at}
use Rattle.sha2.specs.Sha256.{sha256}
use Rattle.shards_format.specs.Stripes.{Numbering}
use Rattle.shards_format.specs.Headers.{header_bytes, head_bytes}
use Rattle.shards_format.specs.Trailers.{trailer_bytes}
use Rattle.shards_format.specs.Pieces.{chunk}
use Rattle.shards_format.specs.Files.{IsPiece}
use Rattle.shards_format.proofs.HeaderLists.{same_piece, same_len}
use Rattle.shards_format.proofs.TrailerLists.{trailer_len}
use Rattle.shards_buffers.specs.Sizes.{piece_size}
use Rattle.shards_buffers.specs.Runs.{IsSized, without_trailer}
use Rattle.shards_buffers.proofs.LastBytes.{front_of, same_starts}

pub header_len : (k n i l : ℕ) → length (header_bytes k n i l) ≡ 24
header_len k n i l = refl

-- ---- the pieces of a file

module _ (number : Numbering) (k n : ℕ) (label file digests : List ℕ) (i : ℕ) (piece : List ℕ) (p : IsPiece number k n label file digests i piece) (count : length digests ≡ 32 * n) where
  -- how long one is
  pub piece_len : length piece ≡ piece_size k n i (length label) (length file)
  piece_len =
      let head = head_bytes k n i label in
      let body = p.listed.body in
      omega (
        arith,
        ap length p.is,
        length-append (head ++ body) (trailer_bytes digests (length file)),
        length-append head body,
        length-append (header_bytes k n i (length label)) label,
        header_len k n i (length label),
        p.listed.body_is.len,
        trailer_len digests (length file),
        count,
      )

  -- it is as long as its header says
  pub is_sized : i < n → length label < 65536 → IsSized k n (length file) i (length label) piece
  is_sized below short =
      let header = header_bytes k n i (length label) in
      let body = p.listed.body in
      let end = trailer_bytes digests (length file) in
      record {
        below = below;
        short = short;
        behind = label ++ (body ++ end);
        is = p.is ∙ append_assoc (header ++ label) body end ∙ append_assoc header label (body ++ end);
        size = piece_len;
      }

  -- and has its digest
  pub has_digest : chunk 32 i digests ≡ sha256 (without_trailer n piece)
  has_digest =
      let text = head_bytes k n i label ++ p.listed.body in
      let end = trailer_bytes digests (length file) in
      let size = length piece - (32 * n + 40) in
      let len : length text ≡ size =
      omega (arith, ap length p.is, length-append text end, trailer_len digests (length file), count) in
      let same : take size piece ≡ text = ap (λ xs. take size xs) p.is ∙ take_at text end size len in
      p.listed.digest_is ∙ ap sha256 (sym same)

-- ---- bytes begin with one header, and with one piece of its length

module _ (k n len i l j m : ℕ) (piece other rest behind : List ℕ) (all_few : n ≤ 65536) (p : IsSized k n len i l piece) (q : IsSized k n len j m other) (same : piece ++ rest ≡ other ++ behind) where
  headers : header_bytes k n i l ≡ header_bytes k n j m
  headers =
      let first : piece ++ rest ≡ header_bytes k n i l ++ (p.behind ++ rest) =
      ap (λ xs. xs ++ rest) p.is ∙ append_assoc (header_bytes k n i l) p.behind rest in
      let second : other ++ behind ≡ header_bytes k n j m ++ (q.behind ++ behind) =
      ap (λ xs. xs ++ behind) q.is ∙ append_assoc (header_bytes k n j m) q.behind behind in
      (same_starts (header_bytes k n i l) (header_bytes k n j m) (p.behind ++ rest) (q.behind ++ behind) (sym first ∙ same ∙ second) (header_len k n i l ∙ sym (header_len k n j m))).0

  pub one_place : i ≡ j
  one_place = same_piece k n i l k n j m headers (omega (arith, p.below, all_few)) (omega (arith, q.below, all_few))

  pub one_label : l ≡ m
  one_label = same_len k n i l k n j m headers (omega (arith, p.short)) (omega (arith, q.short))

  pub one_piece : (piece ≡ other) × (rest ≡ behind)
  one_piece =
      same_starts piece other rest behind same (p.size ∙ ap₂ (λ x y. piece_size k n x y len) one_place one_label ∙ sym q.size)

-- as many bytes as the header says are its piece
pub sized_front : (k n len i l : ℕ) (run rest piece behind : List ℕ) → i < n → l < 65536 → length piece ≡ piece_size k n i l len → run ≡ header_bytes k n i l ++ rest → run ≡ piece ++ behind → IsSized k n len i l piece
sized_front k n len i l run rest piece behind below short size begins parts = record {
  below = below;
  short = short;
  behind = drop (length (header_bytes k n i l)) piece;
  is = front_of (header_bytes k n i l) piece behind rest (omega (arith, size, header_len k n i l)) (sym parts ∙ begins);
  size = size;
}
