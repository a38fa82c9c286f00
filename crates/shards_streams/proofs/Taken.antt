-- What was taken of a source, one time after another.
use Rattle.std.proofs.Common.{◌≡◌, ℕ, ◌+◌, ◌<◌, ◌≤◌, List, [], ◌++◌, length, take, drop, ◌-◌, take-append-drop, length-drop, length-append, append-nil, append_assoc, ap, sym, ◌∙◌, subst, refl, arith, Option, None, Some, inl, inr}
use borrow.Rule.Slice.PartMut.{put_mid, post_of}
use Rattle.std.proofs.lemmas.List.{take_at, length-take-le}
use Rattle.std.specs.Io.KnownBytes.{Consumes, IsAtEnd}
use Rattle.std.proofs.KnownBytes.{Consumes-trans}
use Rattle.ark_bytes.specs.declared.source.Source.{Ghosts}
use Rattle.ark_bytes.specs.Reading.{SourceState, Takes, TakesFewer}
use Rattle.ark_bytes.proofs.Reading.{Takes-nil, Takes-trans, stopped_later}
use Rattle.shards_streams.specs.declared.reader.PieceReader.{PieceReader}
use Rattle.shards_streams.specs.Readers.{Gave, HasRead, reader_state}

-- so many bytes were taken, and then fewer than so many more
pub fewer_more : (a b c : SourceState) (x : List ℕ) (n : ℕ) → Takes a b x → TakesFewer b c n → TakesFewer a c (length x + n)
fewer_more a b c x n p q = record {
  taken = x ++ q.taken;
  fewer = omega (arith, q.fewer, length-append x q.taken);
  consumes = Consumes-trans a.remaining b.remaining c.remaining x q.taken p.consumes q.consumes;
  stopped = stopped_later a b c p.failures q.stopped;
}

-- fewer than so many are fewer than more
pub fewer_within : (a c : SourceState) (n size : ℕ) → n ≤ size → TakesFewer a c n → TakesFewer a c size
fewer_within a c n size within q = record { taken = q.taken; fewer = omega (arith, q.fewer, within); consumes = q.consumes; stopped = q.stopped }

-- what is left of known bytes
abbrev pub Leaves : List ℕ → List ℕ → Option (List ℕ) → Type 0
Leaves bytes x left = (rest : List ℕ) × ((left ≡ Some rest) × (bytes ≡ x ++ rest))

known_rest : (bytes x : List ℕ) (left : Option (List ℕ)) → Consumes (Some bytes) left x → Leaves bytes x left
known_rest bytes x None h = absurd h
known_rest bytes x (Some rest) h = (rest, (refl, h))

rest_of : (bytes x : List ℕ) (had left : Option (List ℕ)) → had ≡ Some bytes → Consumes had left x → Leaves bytes x left
rest_of bytes x had left is h = known_rest bytes x left (subst (λ o. Consumes o left x) is h)

-- a source with as many bytes as were asked for failed
pub short_fails : (a b : SourceState) (bytes : List ℕ) (size : ℕ) → a.remaining ≡ Some bytes → size ≤ length bytes → TakesFewer a b size → a.failures < b.failures
short_fails a b bytes size is enough fewer =
    elim fewer.stopped [
      | inl failed ↦ failed
      | inr end ↦
          let rest = rest_of bytes fewer.taken a.remaining b.remaining is fewer.consumes in
          let none : rest.0 ≡ [] = subst IsAtEnd rest.1.0 end in
          absurd (omega (arith, enough, fewer.fewer, ap length rest.1.1, length-append fewer.taken rest.0, ap length none))
    ]

-- a source that gave bytes where known ones are left
pub known_after : (a b : SourceState) (bytes x : List ℕ) → a.remaining ≡ Some bytes → Takes a b x → (rest : List ℕ) × ((b.remaining ≡ Some rest) × (bytes ≡ x ++ rest))
known_after a b bytes x is takes = rest_of bytes x a.remaining b.remaining is takes.consumes

-- ---- readers

module _ {R : Type 0} (source : Ghosts R) where
  pub gave_nothing : (a : PieceReader R) → Gave source a a []
  gave_nothing a = record { takes = Takes-nil (reader_state source a); hashed = λ text h. subst (HasRead a) (sym (append-nil text)) h }

  pub gave_both : (a b c : PieceReader R) (x y : List ℕ) → Gave source a b x → Gave source b c y → Gave source a c (x ++ y)
  gave_both a b c x y p q = record {
    takes = Takes-trans (reader_state source a) (reader_state source b) (reader_state source c) x y p.takes q.takes;
    hashed = λ text h. subst (HasRead c) (append_assoc text x y) (q.hashed (text ++ x) (p.hashed text h));
  }

-- ---- buffers

taken_more : (i n : ℕ) (xs ys : List ℕ) → i ≤ length xs → n ≤ length ys → take (i + n) (put_mid i (length xs - i) xs ys) ≡ take i xs ++ take n ys
taken_more i n xs ys wi wn =
    let post = post_of i (length xs - i) xs in
    let p = take i xs ++ take n ys in
    let q = drop n ys ++ post in
    let e : take i xs ++ (ys ++ post) ≡ p ++ q =
    ap (λ l. take i xs ++ (l ++ post)) (sym (take-append-drop n ys)) ∙ ap (λ l. take i xs ++ l) (append_assoc (take n ys) (drop n ys) post) ∙ sym (append_assoc (take i xs) (take n ys) q) in
    ap (take (i + n)) e ∙ take_at p q (i + n) (length-append (take i xs) (take n ys) ∙ omega (arith, length-take-le i xs wi, length-take-le n ys wn))

-- the part of a buffer that is written
pub middle_len : (i : ℕ) (xs : List ℕ) → length (take (length xs - i) (drop i xs)) ≡ length xs - i
middle_len i xs = length-take-le (length xs - i) (drop i xs) (omega (arith, length-drop i xs))

pub written_len : (i : ℕ) (xs ys : List ℕ) → i ≤ length xs → length ys ≡ length xs - i → length (put_mid i (length xs - i) xs ys) ≡ length xs
written_len i xs ys wi same =
    length-append (take i xs) (ys ++ post_of i (length xs - i) xs)
    ∙ omega (arith, length-take-le i xs wi, length-append ys (post_of i (length xs - i) xs), length-drop (length xs - i) (drop i xs), length-drop i xs, same)

pub takes_more : (a b c : SourceState) (i n : ℕ) (xs ys : List ℕ) → i ≤ length xs → n ≤ length ys → Takes a b (take i xs)
    → Consumes b.remaining c.remaining (take n ys) → c.failures ≡ b.failures → Takes a c (take (i + n) (put_mid i (length xs - i) xs ys))
takes_more a b c i n xs ys wi wn t next same =
    subst (Takes a c) (sym (taken_more i n xs ys wi wn)) (Takes-trans a b c (take i xs) (take n ys) t (record { consumes = next; failures = same }))
