-- Pieces that bytes begin with, and their readers.
use Rattle.std.proofs.Common.{◌≡◌, ◌≢◌, ℕ, zero, suc, ◌+◌, ◌-◌, ◌*◌, ◌<◌, ◌≤◌, List, [], ◌∷◌, ◌++◌, length, take, drop, get_or, arith, refl, sym, subst, ◌∙◌, ap, ap₂, append-nil, append_assoc, length-append, length-take-le, take-append-drop, below_more, Bor}
use Rattle.std.proofs.lemmas.Grind.{flat_map-append}
use Rattle.std.proofs.lemmas.List.{drop_all, drop_more, get_or_append_left, get_or_push, length_push, take_at}
use Rattle.sha2.specs.Sha256.{sha256}
use Rattle.shards_format.specs.Stripes.{Numbering}
use Rattle.shards_format.specs.Headers.{header_bytes, head_bytes}
use Rattle.shards_format.specs.Pieces.{body_size, chunk}
use Rattle.shards_format.specs.Files.{AreApart, CollidesWithPiece}
use Rattle.shards_streams.specs.declared.reader.PieceReader.{PieceReader}
use Rattle.shards_streams.specs.Readers.{HasRead, piece_source}
use Rattle.shards_streams.proofs.PartsRead.{some_item}
use Rattle.shards_buffers.specs.Runs.{AreSized, HasCollision, HasDamage, concat, without_trailer}
use Rattle.shards_buffers.specs.Opened.{HasOpened, HaveOpened}
use Rattle.shards_buffers.proofs.LastBytes.{front_of}
use Rattle.shards_buffers.proofs.Sized.{header_len, one_label, one_piece, one_place}

-- a reader of a piece
abbrev pub Reader : Type 0
Reader = PieceReader (Bor (List ℕ))

-- ---- one of them

-- what was read of a piece, and what is left of it
pub record HasText (k n len i : ℕ) (piece : List ℕ) (reader : Reader) : Type 0 where
  pub head : List ℕ
  pub body : List ℕ
  pub rest : List ℕ
  pub read : HasRead reader head
  pub is : (piece_source reader).now ≡ body ++ rest
  pub len_is : length body ≡ body_size k i len
  pub text : without_trailer n piece ≡ head ++ body

-- what was read of it is its header and a label, behind which its body is left
pub record HasHead (k n len i : ℕ) (piece : List ℕ) (reader : Reader) : Type 0 where
  pub label : List ℕ
  pub short : length label < 65536
  pub read : HasRead reader (head_bytes k n i label)
  pub text : (body rest : List ℕ) → (piece_source reader).now ≡ body ++ rest → length body ≡ body_size k i len → without_trailer n piece ≡ head_bytes k n i label ++ body

module _ (k n len i : ℕ) (piece : List ℕ) (reader : Reader) (o : HasOpened k n len i piece reader) where
  text_is : (head body rest : List ℕ) → o.passed.head ≡ head → (piece_source reader).now ≡ body ++ rest → length body ≡ body_size k i len → without_trailer n piece ≡ head ++ body
  text_is head body rest same parts size =
      let all = length piece - (32 * n + 40) in
      let is : piece ≡ (head ++ body) ++ rest = o.passed.is ∙ ap₂ (λ (x y : List ℕ). x ++ y) same parts ∙ sym (append_assoc head body rest) in
      let whole : length (head ++ body) ≡ all = omega (arith, length-append head body, ap length same, o.passed.len, size, o.sized.size) in
      ap (take all) is ∙ take_at (head ++ body) rest all whole

  pub has_text : HasText k n len i piece reader
  has_text =
      let head = o.passed.head in
      let left = (piece_source reader).now in
      let body = take (body_size k i len) left in
      let rest = drop (body_size k i len) left in
      let parts : body ++ rest ≡ left = take-append-drop (body_size k i len) left in
      let room : length head + length left ≡ length piece = sym (ap length o.passed.is ∙ length-append head left) in
      let size : length body ≡ body_size k i len = length-take-le (body_size k i len) left (omega (arith, room, o.passed.len, o.sized.size)) in
      record {
        head = head;
        body = body;
        rest = rest;
        read = o.passed.read;
        is = sym parts;
        len_is = size;
        text = text_is head body rest refl (sym parts) size;
      }

  pub has_head : HasHead k n len i piece reader
  has_head =
      let head = o.passed.head in
      let header = header_bytes k n i o.label_len in
      let label = drop (length header) head in
      let is : head ≡ header ++ label =
      front_of header head (piece_source reader).now o.sized.behind (omega (arith, o.passed.len, header_len k n i o.label_len)) (sym o.passed.is ∙ o.sized.is) in
      let len : o.label_len ≡ length label =
      omega (arith, ap length is, length-append header label, header_len k n i o.label_len, o.passed.len) in
      let own : head ≡ head_bytes k n i label = is ∙ ap (λ l. header_bytes k n i l ++ label) len in
      record {
        label = label;
        short = omega (arith, len, o.sized.short);
        read = subst (λ (xs : List ℕ). HasRead reader xs) own o.passed.read;
        text = λ body rest parts size. text_is (head_bytes k n i label) body rest own parts size;
      }

same_opened : (k n len i j : ℕ) (p q : List ℕ) (r s : Reader) → i ≡ j → p ≡ q → r ≡ s → HasOpened k n len i p r → HasOpened k n len j q s
same_opened k n len i j p q r s a b c h =
    subst (λ x. HasOpened k n len x q s) a (subst (λ (x : List ℕ). HasOpened k n len i x s) b (subst (λ (x : Reader). HasOpened k n len i p x) c h))

-- ---- the first m

pub none_opened : (k n len : ℕ) (run : List ℕ) → HaveOpened k n len 0 run run [] []
none_opened k n len run = record {
  as_many = omega arith;
  all = omega arith;
  pieces = [];
  count = omega arith;
  each = λ a d h. absurd (omega (arith, h));
  is = refl;
}

module _ (k n len m : ℕ) (run left places : List ℕ) (readers : List Reader) (o : HaveOpened k n len m run left places readers) where
  some_reader : (a : ℕ) → a < m → Reader
  some_reader a h = some_item readers (omega (arith, h, o.all))

  pub below : (a : ℕ) → a < m → get_or places a 0 < n
  below a h = (o.each a (some_reader a h) h).sized.below

  -- one more
  pub one_opened : (i : ℕ) (piece behind : List ℕ) (reader : Reader) → HasOpened k n len i piece reader → left ≡ piece ++ behind
      → HaveOpened k n len (m + 1) run behind (places ++ i ∷ []) (readers ++ reader ∷ [])
  one_opened i piece behind reader here split = record {
    as_many = length_push places i ∙ ap (λ x. x + 1) o.as_many;
    all = length_push readers reader ∙ ap (λ x. x + 1) o.all;
    pieces = o.pieces ++ piece ∷ [];
    count = length_push o.pieces piece ∙ ap (λ x. x + 1) o.count;
    each = λ a d h. below_more (λ a. HasOpened k n len (get_or (places ++ i ∷ []) a 0) (get_or (o.pieces ++ piece ∷ []) a []) (get_or (readers ++ reader ∷ []) a d)) m
        (λ a l. same_opened k n len (get_or places a 0) _ (get_or o.pieces a []) _ (get_or readers a d) _ (sym (get_or_append_left places (i ∷ []) 0 a (omega (arith, l, o.as_many))))
        (sym (get_or_append_left o.pieces (piece ∷ []) [] a (omega (arith, l, o.count)))) (sym (get_or_append_left readers (reader ∷ []) d a (omega (arith, l, o.all)))) (o.each a d l))
        (same_opened k n len i _ piece _ reader _ (sym (get_or_push places i 0 m o.as_many)) (sym (get_or_push o.pieces piece [] m o.count)) (sym (get_or_push readers reader d m o.all)) here) a h;
    is =
        o.is ∙ ap (λ xs. concat o.pieces ++ xs) split ∙ sym (append_assoc (concat o.pieces) piece behind)
        ∙ ap (λ xs. xs ++ behind) (sym (flat_map-append (λ (xs : List ℕ). xs) o.pieces (piece ∷ []) ∙ ap (λ xs. concat o.pieces ++ xs) (append-nil piece)));
  }

  -- where k are opened, at places that differ
  sized : m ≡ k → AreApart places → AreSized k n len run
  sized all apart = record {
    places = places;
    enough = o.as_many ∙ all;
    apart = apart;
    pieces = o.pieces;
    count = o.count ∙ all;
    each = λ a h. let l : a < m = subst (λ x. a < x) (sym all) h in let own = o.each a (some_reader a l) l in (own.label_len, own.sized);
    behind = left;
    is = o.is;
  }

  -- of which one has not its digest
  pub damaged : m ≡ k → AreApart places → (digests : List ℕ) (a : ℕ) → a < m → chunk 32 (get_or places a 0) digests ≢ sha256 (without_trailer n (get_or o.pieces a [])) → HasDamage k n len digests run
  unfolding sized
  damaged all apart digests a h differs = record {
    sized = sized all apart;
    a = a;
    inside = subst (λ x. a < x) all h;
    differs = differs;
  }

  -- these are the only pieces that the bytes begin with
  module _ (few : n ≤ 65536) (s : AreSized k n len run) where
    abbrev Rest : ℕ → Type 0
    Rest a = concat (drop a o.pieces) ++ left ≡ concat (drop a s.pieces) ++ s.behind

    pub record SameAt (a label_len other : ℕ) : Type 0 where
      pub place : get_or places a 0 ≡ get_or s.places a 0
      pub label : label_len ≡ other
      pub piece : get_or o.pieces a [] ≡ get_or s.pieces a []
      pub rest : concat (drop (a + 1) o.pieces) ++ left ≡ concat (drop (a + 1) s.pieces) ++ s.behind

    at : (a : ℕ) (d : Reader) (h : a < m) (l : a < k) → Rest a → SameAt a (o.each a d h).label_len (s.each a l).0
    at a d h l r =
        let x = get_or o.pieces a [] in
        let y = get_or s.pieces a [] in
        let after = concat (drop (a + 1) o.pieces) ++ left in
        let later = concat (drop (a + 1) s.pieces) ++ s.behind in
        let own : concat (drop a o.pieces) ++ left ≡ x ++ after =
        ap (λ ps. concat ps ++ left) (drop_more o.pieces a [] (omega (arith, h, o.count))) ∙ append_assoc x (concat (drop (a + 1) o.pieces)) left in
        let other : concat (drop a s.pieces) ++ s.behind ≡ y ++ later =
        ap (λ ps. concat ps ++ s.behind) (drop_more s.pieces a [] (omega (arith, l, s.count))) ∙ append_assoc y (concat (drop (a + 1) s.pieces)) s.behind in
        let both : x ++ after ≡ y ++ later = sym own ∙ r ∙ other in
        let p = (o.each a d h).sized in
        let q = (s.each a l).1 in
        let i = get_or places a 0 in
        let j = get_or s.places a 0 in
        let own_label = (o.each a d h).label_len in
        let label = (s.each a l).0 in
        let parts = one_piece k n len i own_label j label x y after later few p q both in
        record {
          place = one_place k n len i own_label j label x y after later few p q both;
          label = one_label k n len i own_label j label x y after later few p q both;
          piece = parts.0;
          rest = parts.1;
        }

    rests : (a : ℕ) → a ≤ m → a ≤ k → Rest a
    rests zero h l = sym o.is ∙ s.is
    rests (suc a) h l =
        let inside : a < m = omega (arith, h) in
        let low : a < k = omega (arith, l) in
        subst Rest (let e : a + 1 ≡ suc a = omega arith in e) (at a (some_reader a inside) inside low (rests a (omega (arith, inside)) (omega (arith, low)))).rest

    pub same_at : (a : ℕ) (d : Reader) (h : a < m) (l : a < k) → SameAt a (o.each a d h).label_len (s.each a l).0
    same_at a d h l = at a d h l (rests a (omega (arith, h)) (omega (arith, l)))

    -- what is left begins with the next of them
    pub next_left : m < k → left ≡ get_or s.pieces m [] ++ (concat (drop (m + 1) s.pieces) ++ s.behind)
    next_left h =
        sym (ap (λ ps. concat ps ++ left) (drop_all m o.pieces (omega (arith, o.count)))) ∙ rests m (omega arith) (omega (arith, h))
        ∙ ap (λ ps. concat ps ++ s.behind) (drop_more s.pieces m [] (omega (arith, h, s.count))) ∙ append_assoc (get_or s.pieces m []) (concat (drop (m + 1) s.pieces)) s.behind

    -- so their places differ
    pub same_apart : m ≡ k → AreApart places
    same_apart all = λ a b l h same.
        let last : b < m = omega (arith, h, o.as_many) in
        let first : a < m = omega (arith, l, last) in
        let place_a = (same_at a (some_reader a first) first (subst (λ x. a < x) all first)).place in
        let place_b = (same_at b (some_reader b last) last (subst (λ x. b < x) all last)).place in
        s.apart a b l (omega (arith, last, all, s.enough)) (sym place_a ∙ same ∙ place_b)

-- of k that are opened, at places that differ, one collides with a file's piece
pub collided : (number : Numbering) (k n : ℕ) (label bytes run left places : List ℕ) (readers : List Reader) (o : HaveOpened k n (length bytes) k run left places readers) → AreApart places → (a : ℕ) → a < k
    → CollidesWithPiece number k n label bytes (get_or places a 0) (without_trailer n (get_or o.pieces a [])) → HasCollision number k n label bytes run
unfolding sized
collided number k n label bytes run left places readers o apart a h collides = record {
  sized = sized k n (length bytes) k run left places readers o refl apart;
  a = a;
  inside = h;
  collides = collides;
}
