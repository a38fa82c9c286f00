-- What readers in memory have of the pieces that splitting gave.
use Rattle.std.proofs.Common.{◌≡◌, ℕ, ◌+◌, ◌<◌, ◌≤◌, List, [], ◌++◌, length, take, drop, get_or, length-append, append_assoc, append-nil, ap, sym, ◌∙◌, subst, refl, arith, Some, Bor}
use Rattle.std.proofs.lemmas.List.{take_at, drop_at}
use Rattle.sha2.specs.Sha256.{sha256}
use Rattle.shards_format.specs.Stripes.{Numbering}
use Rattle.shards_format.specs.Headers.{header_bytes, head_bytes}
use Rattle.shards_format.specs.Trailers.{trailer_bytes}
use Rattle.shards_format.specs.Pieces.{body_size, chunk}
use Rattle.shards_format.specs.Files.{IsPiece}
use Rattle.shards_streams.specs.declared.reader.PieceReader.{PieceReader}
use Rattle.shards_streams.specs.declared.writer.PieceWriter.{PieceWriter}
use Rattle.shards_streams.specs.declared.laws.ListSink.{ListSink}
use Rattle.shards_streams.specs.Writers.{piece_sink}
use Rattle.shards_streams.specs.Readers.{HasRead, piece_source}
use Rattle.shards_streams.specs.Streams.{TookPiece}
use Rattle.shards_streams.specs.Joining.{HasBody}
use Rattle.shards_streams.specs.Laws.{HasPassed, HavePieces}
use Rattle.shards_streams.proofs.PartsRead.{some_item}

-- how long the beginning of a piece is
header_len : (k n i l : ℕ) → length (header_bytes k n i l) ≡ 24
header_len k n i l = refl

head_len : (k n i : ℕ) (label : List ℕ) → length (head_bytes k n i label) ≡ 24 + length label
head_len k n i label =
    omega (arith, length-append (header_bytes k n i (length label)) label, header_len k n i (length label))

-- all bytes of a slice were taken
pub all_taken : (bytes taken left : List ℕ) → bytes ≡ taken ++ left → left ≡ [] → taken ≡ bytes
all_taken bytes taken left is none = sym (is ∙ ap (λ xs. taken ++ xs) none ∙ append-nil taken)

module _ (number : Numbering) (k n : ℕ) (label bytes digests : List ℕ) (i : ℕ) where
  -- a piece that was put into an empty list
  pub took_all : (empty now : List ℕ) → empty ≡ [] → (t : TookPiece number k n label bytes digests i (Some empty) (Some now)) → now ≡ t.piece
  took_all empty now none t = t.appends ∙ ap (λ xs. xs ++ t.piece) none

  module _ (piece : List ℕ) (p : IsPiece number k n label bytes digests i piece) where
    piece_is : piece ≡ head_bytes k n i label ++ (p.listed.body ++ trailer_bytes digests (length bytes))
    piece_is = p.is ∙ append_assoc (head_bytes k n i label) p.listed.body (trailer_bytes digests (length bytes))

    -- it has room for its beginning
    pub has_head : 24 + length label ≤ length piece
    has_head =
        omega (arith, ap length piece_is, length-append (head_bytes k n i label) (p.listed.body ++ trailer_bytes digests (length bytes)), head_len k n i label)

    module _ {R : Type 0} (size : ℕ) (size_is : size ≡ 24 + length label) (reader : PieceReader R) (left : List ℕ) (passed : HasPassed piece size reader left) where
      passed_len : length passed.head ≡ 24 + length label
      passed_len = passed.len ∙ size_is

      -- behind its beginning the body is left
      pub left_is : left ≡ p.listed.body ++ trailer_bytes digests (length bytes)
      left_is =
          sym (drop_at passed.head left (24 + length label) passed_len) ∙ ap (drop (24 + length label)) (sym passed.is ∙ piece_is)
          ∙ drop_at (head_bytes k n i label) (p.listed.body ++ trailer_bytes digests (length bytes)) (24 + length label) (head_len k n i label)

      head_is : passed.head ≡ head_bytes k n i label
      head_is =
          sym (take_at passed.head left (24 + length label) passed_len) ∙ ap (take (24 + length label)) (sym passed.is ∙ piece_is)
          ∙ take_at (head_bytes k n i label) (p.listed.body ++ trailer_bytes digests (length bytes)) (24 + length label) (head_len k n i label)

      pub body_left : HasBody number k n bytes i (Some left)
      body_left = record {
        body = p.listed.body;
        rest = trailer_bytes digests (length bytes);
        is = ap Some left_is;
        body_is = p.listed.body_is;
      }

      -- what was read is what its digest begins with
      pub head_read : HasRead reader (head_bytes k n i label)
      head_read = subst (λ (xs : List ℕ). HasRead reader xs) head_is passed.read

-- the body that is left of a piece in memory, and the digest that is listed for it
pub record HasListed (k : ℕ) (bytes digests : List ℕ) (place : ℕ) {R : Type 0} (reader : PieceReader R) (left : List ℕ) : Type 0 where
  pub head : List ℕ
  pub body : List ℕ
  pub rest : List ℕ
  pub read : HasRead reader head
  pub is : left ≡ body ++ rest
  pub len : length body ≡ body_size k place (length bytes)
  pub listed : chunk 32 place digests ≡ sha256 (head ++ body)

-- readers of chosen pieces in memory
module _ (number : Numbering) (k n : ℕ) (label bytes digests places : List ℕ) (writers : List (PieceWriter ListSink)) (readers : List (PieceReader (Bor (List ℕ)))) (size : ℕ) (size_is : size ≡ 24 + length label)
    (count : length writers ≡ n) (enough : length places ≡ k) (below : (a : ℕ) → a < length places → get_or places a 0 < n) (pieces : HavePieces number k n label bytes digests writers)
    (each : (a : ℕ) (w : PieceWriter ListSink) (d : PieceReader (Bor (List ℕ))) → a < length places
    → HasPassed (piece_sink (get_or writers (get_or places a 0) w)).bytes.items size (get_or readers a d) (piece_source (get_or readers a d)).now) where
  inside : (a : ℕ) → a < k → get_or places a 0 < n
  inside a l = below a (subst (λ m. a < m) (sym enough) l)

  some_writer : (a : ℕ) → a < k → PieceWriter ListSink
  some_writer a l = some_item writers (subst (λ m. 0 < m) (sym count) (omega (arith, inside a l)))

  -- each has its body left
  pub bodies_left : (a : ℕ) (d : PieceReader (Bor (List ℕ))) → a < k → HasBody number k n bytes (get_or places a 0) (Some (piece_source (get_or readers a d)).now)
  bodies_left a d l =
      let w = some_writer a l in
      body_left number k n label bytes digests (get_or places a 0) _ (pieces (get_or places a 0) w (inside a l)) size size_is (get_or readers a d) (piece_source (get_or readers a d)).now
      (each a w d (subst (λ m. a < m) (sym enough) l))

  -- and its digest is the one that is listed
  pub all_listed : (a : ℕ) (d : PieceReader (Bor (List ℕ))) → a < k → HasListed k bytes digests (get_or places a 0) (get_or readers a d) (piece_source (get_or readers a d)).now
  all_listed a d l =
      let place = get_or places a 0 in
      let w = some_writer a l in
      let piece = pieces place w (inside a l) in
      let passed = each a w d (subst (λ m. a < m) (sym enough) l) in
      record {
        head = head_bytes k n place label;
        body = piece.listed.body;
        rest = trailer_bytes digests (length bytes);
        read = head_read number k n label bytes digests place _ piece size size_is (get_or readers a d) (piece_source (get_or readers a d)).now passed;
        is = left_is number k n label bytes digests place _ piece size size_is (get_or readers a d) (piece_source (get_or readers a d)).now passed;
        len = piece.listed.body_is.len;
        listed = piece.listed.digest_is;
      }
