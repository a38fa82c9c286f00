-- Pieces of a file that were opened have its bodies left, and end with its trailer.
use Rattle.std.proofs.Common.{◌≡◌, ℕ, ◌+◌, ◌-◌, ◌<◌, ◌≤◌, List, [], ◌++◌, length, take, drop, get_or, arith, sym, subst, subst₂, ◌∙◌, ap, append_assoc, append-nil, length-take-le, take-append-drop, Some}
use Rattle.std.proofs.lemmas.Grind.{flat_map-append}
use Rattle.std.proofs.lemmas.List.{get_or-take, take_at}
use Rattle.sha2.specs.Sha256.{sha256}
use Rattle.shards_format.specs.Stripes.{Numbering}
use Rattle.shards_format.specs.Headers.{head_bytes}
use Rattle.shards_format.specs.Trailers.{listing, set_name, trailer_bytes}
use Rattle.shards_format.specs.Pieces.{chunk}
use Rattle.shards_format.specs.Files.{IsPiece}
use Rattle.shards_format.proofs.TrailerLists.{listing_len, one_listing, trailer_len}
use Rattle.shards_streams.specs.Readers.{piece_source}
use Rattle.shards_streams.specs.Joining.{HasBody}
use Rattle.shards_streams.proofs.Rejoined.{body_left}
use Rattle.shards_buffers.specs.Runs.{AreEnough, AreSized, HasTrailer, IsSized, concat, without_trailer}
use Rattle.shards_buffers.specs.Opened.{HaveOpened}
use Rattle.shards_buffers.proofs.Concats.{one_more}
use Rattle.shards_buffers.proofs.LastBytes.{same_ends, same_starts}
use Rattle.shards_buffers.proofs.Opened.{Reader, same_at}
use Rattle.shards_buffers.proofs.Sized.{has_digest, is_sized}

-- the first items of a list that has no more
pub take_whole : {X : Type 0} (xs : List X) (m : ℕ) → m ≡ length xs → take m xs ≡ xs
take_whole xs m is = ap (take m) (sym (append-nil xs)) ∙ take_at xs [] m (sym is)

-- one list ends with one trailer
pub one_trailer : (n : ℕ) (run digests others : List ℕ) (len l : ℕ) → HasTrailer n digests len run → HasTrailer n others l run → (digests ≡ others) × (len ≡ l)
one_trailer n run digests others len l one two =
    let ends : trailer_bytes digests len ≡ trailer_bytes others l =
    (same_ends one.front two.front (trailer_bytes digests len) (trailer_bytes others l) (sym one.is ∙ two.is) (omega (arith, trailer_len digests len, trailer_len others l, one.count, two.count))).1 in
    one_listing digests others len l one.few two.few
    (same_starts (listing digests len) (listing others l) (set_name digests len) (set_name others l) ends (omega (arith, listing_len digests len, listing_len others l, one.count, two.count))).0

module _ (number : Numbering) (k n : ℕ) (label file run : List ℕ) (p : AreEnough number k n label file run) where
  inside : (a : ℕ) → a < k → a < length p.places
  inside a h = omega (arith, h, p.enough)

  -- k pieces or more end with the trailer
  pub enough_end : 0 < k → HasTrailer n p.digests (length file) run
  enough_end some =
      let pieces = p.are.pieces in
      let last = length pieces - 1 in
      let many : 0 < length pieces = omega (arith, some, p.enough, p.are.count) in
      let all : take (last + 1) pieces ≡ pieces = take_whole pieces (last + 1) (omega (arith, many)) in
      let piece = p.are.each last (omega (arith, many, p.are.count)) in
      let before = concat (take last pieces) in
      let head = head_bytes k n (get_or p.places last 0) label ++ piece.listed.body in
      record {
        count = p.digests_are.count;
        few = p.file.bound;
        front = before ++ head;
        is =
            p.are.is ∙ ap concat (sym all) ∙ one_more (λ (xs : List ℕ). xs) pieces last [] (omega (arith, many)) ∙ ap (λ xs. before ++ xs) piece.is
            ∙ sym (append_assoc before head (trailer_bytes p.digests (length file)));
      }

  -- and begin with k
  pub first_sized : AreSized k n (length file) run
  first_sized = record {
    places = take k p.places;
    enough = length-take-le k p.places p.enough;
    apart = λ a b l h same.
        let last : b < k = subst (λ x. b < x) (length-take-le k p.places p.enough) h in
        let first : a < k = omega (arith, l, last) in
        p.apart a b l (inside b last) (sym (get_or-take k p.places a 0 first) ∙ same ∙ get_or-take k p.places b 0 last);
    pieces = take k p.are.pieces;
    count = length-take-le k p.are.pieces (omega (arith, p.enough, p.are.count));
    each = λ a h. (
      length label,
      subst₂ (λ i (xs : List ℕ). IsSized k n (length file) i (length label) xs) (sym (get_or-take k p.places a 0 h)) (sym (get_or-take k p.are.pieces a [] h))
          (is_sized number k n label file p.digests (get_or p.places a 0) (get_or p.are.pieces a []) (p.are.each a (inside a h)) p.digests_are.count (p.below a (inside a h)) p.file.short),
    );
    behind = concat (drop k p.are.pieces);
    is = p.are.is ∙ ap concat (sym (take-append-drop k p.are.pieces)) ∙ flat_map-append (λ (xs : List ℕ). xs) (take k p.are.pieces) (drop k p.are.pieces);
  }

  -- where the first k pieces were opened
  module _ (few : n ≤ 65536) (left places : List ℕ) (readers : List Reader) (o : HaveOpened k n (length file) k run left places readers) where
    file_piece : (a : ℕ) (d : Reader) → a < k → IsPiece number k n label file p.digests (get_or places a 0) (get_or o.pieces a [])
    unfolding first_sized
    file_piece a d h =
        let same = same_at k n (length file) k run left places readers o few first_sized a d h h in
        subst₂ (λ i (xs : List ℕ). IsPiece number k n label file p.digests i xs) (sym (same.place ∙ get_or-take k p.places a 0 h)) (sym (same.piece ∙ get_or-take k p.are.pieces a [] h)) (p.are.each a (inside a h))

    -- each reader has the body left
    pub have_bodies : (a : ℕ) (d : Reader) → a < k → HasBody number k n file (get_or places a 0) (Some (piece_source (get_or readers a d)).now)
    unfolding first_sized
    have_bodies a d h =
        let same = same_at k n (length file) k run left places readers o few first_sized a d h h in
        let own = o.each a d h in
        body_left number k n label file p.digests (get_or places a 0) (get_or o.pieces a []) (file_piece a d h) (24 + own.label_len) (ap (λ x. 24 + x) same.label) (get_or readers a d)
        (piece_source (get_or readers a d)).now own.passed

    -- and each piece has its digest
    pub have_digests : (a : ℕ) (d : Reader) → a < k → chunk 32 (get_or places a 0) p.digests ≡ sha256 (without_trailer n (get_or o.pieces a []))
    have_digests a d h =
        has_digest number k n label file p.digests (get_or places a 0) (get_or o.pieces a []) (file_piece a d h) p.digests_are.count
