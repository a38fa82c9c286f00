-- Whole pieces, part by part.
use Rattle.std.proofs.Common.{◌≡◌, ℕ, ◌+◌, ◌-◌, ◌*◌, ◌<◌, ◌≤◌, ◌^◌, List, ◌++◌, length, take, drop, length-append, append_assoc, ap, ap₂, sym, ◌∙◌, subst, refl, arith, Some}
use Rattle.std.proofs.lemmas.List.{take_at, drop_at, take_all}
use Rattle.std.specs.Io.KnownBytes.{IsAtEnd}
use Rattle.sha2.specs.Sha256.{sha256}
use Rattle.ark_bytes.specs.Reading.{SourceState, Takes, TakesFewer}
use Rattle.ark_bytes.proofs.Reading.{Takes-trans}
use Rattle.shards_format.specs.Headers.{header_bytes}
use Rattle.shards_format.specs.Trailers.{listing, set_name, trailer_bytes}
use Rattle.shards_format.specs.Pieces.{IsWhole, Piece, body_size, chunk}
use Rattle.shards_format.specs.declared.header.Header.{Header}
use Rattle.shards_format.proofs.HeaderLists.{same_k, same_n, same_piece, same_len}
use Rattle.shards_format.proofs.TrailerLists.{listing_len, one_listing, trailer_len}
use Rattle.shards_streams.specs.Checking.{GavePiece, GaveRest, LacksHeader, LacksPiece, LacksRest, LacksTrailer}
use Rattle.shards_streams.proofs.Taken.{known_after, short_fails}

abbrev bytes_of : Header → List ℕ
bytes_of h = header_bytes h.k h.n h.number h.label_len

head_len : (h : Header) → length (bytes_of h) ≡ 24
head_len h = refl

-- one trailer is spelled in one way
one_trailer : (digests others : List ℕ) (len other : ℕ) → length digests ≡ length others → len < 2 ^ 62 → other < 2 ^ 62 → trailer_bytes digests len ≡ trailer_bytes others other
    → (digests ≡ others) × (len ≡ other)
one_trailer digests others len other size few less same =
    let n = length digests + 8 in
    one_listing digests others len other few less
    (sym (take_at (listing digests len) (set_name digests len) n (listing_len digests len)) ∙ ap (take n) same
    ∙ take_at (listing others other) (set_name others other) n (listing_len others other ∙ ap (λ m. m + 8) (sym size)))

-- ---- the rest of a whole piece, behind a header and a label

module _ (h : Header) (label bytes : List ℕ) (len : length label ≡ h.label_len) (p : Piece) (w : IsWhole ((bytes_of h ++ label) ++ bytes) p) where
  abbrev pub tail : List ℕ
  tail = trailer_bytes p.digests p.len

  -- the same bytes, from the header on
  from_header : bytes_of h ++ (label ++ bytes) ≡ bytes_of p.header ++ (p.label ++ (p.body ++ tail))
  from_header =
      sym (append_assoc (bytes_of h) label bytes) ∙ w.is ∙ append_assoc (bytes_of p.header ++ p.label) p.body tail ∙ append_assoc (bytes_of p.header) p.label (p.body ++ tail)

  same_header : bytes_of h ≡ bytes_of p.header
  same_header =
      sym (take_at (bytes_of h) (label ++ bytes) 24 (head_len h)) ∙ ap (take 24) from_header ∙ take_at (bytes_of p.header) (p.label ++ (p.body ++ tail)) 24 (head_len p.header)

  same_count : h.n ≡ p.header.n
  same_count = same_n h.k h.n h.number h.label_len p.header.k p.header.n p.header.number p.header.label_len same_header (omega (arith, h.few)) (omega (arith, p.header.few))

  same_least : h.k ≡ p.header.k
  same_least =
      same_k h.k h.n h.number h.label_len p.header.k p.header.n p.header.number p.header.label_len same_header (omega (arith, h.fits, h.few)) (omega (arith, p.header.fits, p.header.few))

  same_number : h.number ≡ p.header.number
  same_number =
      same_piece h.k h.n h.number h.label_len p.header.k p.header.n p.header.number p.header.label_len same_header (omega (arith, h.below, h.few)) (omega (arith, p.header.below, p.header.few))

  label_lens : length label ≡ length p.label
  label_lens =
      len
      ∙ same_len h.k h.n h.number h.label_len p.header.k p.header.n p.header.number p.header.label_len same_header (omega (arith, h.short)) (omega (arith, p.header.short))
      ∙ sym w.label_len

  behind : label ++ bytes ≡ p.label ++ (p.body ++ tail)
  behind =
      sym (drop_at (bytes_of h) (label ++ bytes) 24 (head_len h)) ∙ ap (drop 24) from_header ∙ drop_at (bytes_of p.header) (p.label ++ (p.body ++ tail)) 24 (head_len p.header)

  same_label : label ≡ p.label
  same_label =
      sym (take_at label bytes (length label) refl) ∙ ap (take (length label)) behind ∙ take_at p.label (p.body ++ tail) (length label) (sym label_lens)

  pub rest_is : bytes ≡ p.body ++ tail
  rest_is = sym (drop_at label bytes (length label) refl) ∙ ap (drop (length label)) behind ∙ drop_at p.label (p.body ++ tail) (length label) (sym label_lens)

  head_same : bytes_of h ++ label ≡ bytes_of p.header ++ p.label
  head_same = ap₂ (λ (x y : List ℕ). x ++ y) same_header same_label

  rest_len : length bytes ≡ length p.body + (32 * h.n + 40)
  rest_len =
      omega (arith, ap length rest_is, length-append p.body tail, trailer_len p.digests p.len, w.count, same_count)

  whole_len : length ((bytes_of h ++ label) ++ bytes) ≡ 24 + length label + length p.body + (32 * h.n + 40)
  whole_len = omega (arith, length-append (bytes_of h ++ label) bytes, length-append (bytes_of h) label, head_len h, rest_len)

-- ---- where there is no rest of a whole piece

module _ (h : Header) (label : List ℕ) (len : length label ≡ h.label_len) (size : ℕ) where
  pub lacks_room : (a b : SourceState) → size < 24 + length label + (32 * h.n + 40) → LacksRest h label size a b
  lacks_room a b small = λ bytes p w long is. absurd (omega (arith, small, long, whole_len h label bytes len p w))

  pub lacks_body : (a b : SourceState) → 24 + length label + (32 * h.n + 40) ≤ size → TakesFewer a b (size - (24 + length label + (32 * h.n + 40))) → LacksRest h label size a b
  lacks_body a b room fewer = λ bytes p w long is.
      short_fails a b bytes (size - (24 + length label + (32 * h.n + 40))) is (omega (arith, room, long, whole_len h label bytes len p w, rest_len h label bytes len p w)) fewer

  module _ (a b : SourceState) (room : 24 + length label + (32 * h.n + 40) ≤ size) (body : List ℕ) (body_len : length body ≡ size - (24 + length label + (32 * h.n + 40))) (takes : Takes a b body) where
    -- what was read is the body, and the trailer is left
    body_read : (bytes : List ℕ) (p : Piece) → IsWhole ((bytes_of h ++ label) ++ bytes) p → length ((bytes_of h ++ label) ++ bytes) ≡ size → a.remaining ≡ Some bytes
        → (body ≡ p.body) × (b.remaining ≡ Some (trailer_bytes p.digests p.len))
    body_read bytes p w long is =
        let all = known_after a b bytes body is takes in
        let both : body ++ all.0 ≡ p.body ++ trailer_bytes p.digests p.len = sym all.1.1 ∙ rest_is h label bytes len p w in
        let same : length body ≡ length p.body = omega (arith, body_len, room, long, whole_len h label bytes len p w) in (
          sym (take_at body all.0 (length body) refl) ∙ ap (take (length body)) both ∙ take_at p.body (trailer_bytes p.digests p.len) (length body) (sym same),
          all.1.0 ∙ ap Some (sym (drop_at body all.0 (length body) refl) ∙ ap (drop (length body)) both ∙ drop_at p.body (trailer_bytes p.digests p.len) (length body) (sym same)),
        )

    pub lacks_trailer : (c : SourceState) → LacksTrailer h.n b c → LacksRest h label size a c
    lacks_trailer c none = λ bytes p w long is.
        let read = body_read bytes p w long is in
        let failed = none p.digests p.len (w.count ∙ ap (λ m. 32 * m) (sym (same_count h label bytes len p w))) w.few read.1 in
        omega (arith, failed, takes.failures)

    module _ (c : SourceState) (digests : List ℕ) (l : ℕ) (count : length digests ≡ 32 * h.n) (few : l < 2 ^ 62) (last : Takes b c (trailer_bytes digests l)) where
      pub lacks_own : (digest : List ℕ) → digest ≡ sha256 ((bytes_of h ++ label) ++ body)
          → (length body ≡ body_size h.k h.number l → chunk 32 h.number digests ≡ digest → ⊥) → LacksRest h label size a c
      lacks_own digest own refused = λ bytes p w long is.
          let read = body_read bytes p w long is in
          let all = known_after b c (trailer_bytes p.digests p.len) (trailer_bytes digests l) read.1 last in
          let counts : length digests ≡ length p.digests = count ∙ ap (λ m. 32 * m) (same_count h label bytes len p w) ∙ sym w.count in
          let lens : length (trailer_bytes digests l) ≡ length (trailer_bytes p.digests p.len) = trailer_len digests l ∙ ap (λ m. m + 40) counts ∙ sym (trailer_len p.digests p.len) in
          let tails : trailer_bytes digests l ≡ trailer_bytes p.digests p.len =
          sym (take_at (trailer_bytes digests l) all.0 (length (trailer_bytes digests l)) refl) ∙ ap (take (length (trailer_bytes digests l))) (sym all.1.1)
          ∙ take_all (length (trailer_bytes digests l)) (trailer_bytes p.digests p.len) (omega (arith, lens)) in
          let one = one_trailer digests p.digests l p.len counts few w.few tails in
          let sized : length body ≡ body_size h.k h.number l =
          ap length read.0 ∙ w.body_len ∙ ap₂ (λ x y. body_size x y p.len) (sym (same_least h label bytes len p w)) (sym (same_number h label bytes len p w)) ∙ ap (body_size h.k h.number) (sym one.1) in
          let listed : chunk 32 h.number digests ≡ digest =
          ap₂ (λ x (y : List ℕ). chunk 32 x y) (same_number h label bytes len p w) one.0 ∙ w.listed
          ∙ ap sha256 (ap₂ (λ (x y : List ℕ). x ++ y) (sym (head_same h label bytes len p w)) (sym read.0)) ∙ sym own in
          absurd (refused sized listed)

      -- it gave the rest
      pub gave_rest : length body ≡ body_size h.k h.number l → chunk 32 h.number digests ≡ sha256 ((bytes_of h ++ label) ++ body) → IsAtEnd c.remaining → GaveRest h label digests l size a c
      gave_rest sized listed end = record {
        bytes = body ++ trailer_bytes digests l;
        body = body;
        whole = record {
          is = sym (append_assoc (bytes_of h ++ label) body (trailer_bytes digests l));
          label_len = len;
          body_len = sized;
          count = count;
          few = few;
          listed = listed;
        };
        size_is = omega (
          arith,
          length-append (bytes_of h ++ label) (body ++ trailer_bytes digests l),
          length-append (bytes_of h) label,
          head_len h,
          length-append body (trailer_bytes digests l),
          trailer_len digests l,
          count,
          body_len,
          room,
        );
        takes = Takes-trans a b c body (trailer_bytes digests l) takes last;
        end = end;
      }

-- ---- from the header on

pub lacks_head : (size : ℕ) (a b : SourceState) → LacksHeader a b → LacksPiece size a b
lacks_head size a b none = λ bytes p w long is.
    none p.header p.label (p.body ++ trailer_bytes p.digests p.len) w.label_len
    (is ∙ ap Some (w.is ∙ append_assoc (bytes_of p.header ++ p.label) p.body (trailer_bytes p.digests p.len)))

module _ (h : Header) (label : List ℕ) (size : ℕ) (a b c : SourceState) (takes : Takes a b (bytes_of h ++ label)) where
  pub lacks_behind : LacksRest h label size b c → LacksPiece size a c
  lacks_behind none = λ bytes p w long is.
      let all = known_after a b bytes (bytes_of h ++ label) is takes in
      let failed = none all.0 p (subst (λ (x : List ℕ). IsWhole x p) all.1.1 w) (ap length (sym all.1.1) ∙ long) all.1.0 in
      omega (arith, failed, takes.failures)

  pub gave_piece : (digests : List ℕ) (len : ℕ) → GaveRest h label digests len size b c → GavePiece h label digests len size a c
  gave_piece digests len rest = record {
    bytes = (bytes_of h ++ label) ++ rest.bytes;
    body = rest.body;
    whole = rest.whole;
    size_is = rest.size_is;
    takes = Takes-trans a b c (bytes_of h ++ label) rest.bytes takes rest.takes;
    end = rest.end;
  }
