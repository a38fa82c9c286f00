-- The bytes that `take` gave stand behind those before them.
use Rattle.std.proofs.Common.{◌≡◌, ℕ, ◌+◌, ◌-◌, ◌<◌, ◌≤◌, List, ◌++◌, length, take, drop, sym, ap, ◌∙◌, append_assoc, take-append-drop, length-append, length-drop, arith, subst, inl, inr}
use Rattle.std.proofs.lemmas.List.{take_at, length-take-le}
use Rattle.std.specs.Io.KnownBytes.{Consumes, Keeps, IsAtEnd}
use Rattle.std.proofs.KnownBytes.{Consumes-trans, Consumes-kept}
use borrow.Rule.Slice.PartMut.{put_mid, post_of}
use Rattle.ark_bytes.specs.Reading.{SourceState, Takes, TakesFewer}
use Rattle.ark_bytes.proofs.source.Source.take_all.Goals as goal

taken_more : (i n : ℕ) (xs ys : List ℕ) → i ≤ length xs → n ≤ length ys → take (i + n) (put_mid i (length xs - i) xs ys) ≡ take i xs ++ take n ys
taken_more i n xs ys wi wn =
    let post = post_of i (length xs - i) xs in
    let p = take i xs ++ take n ys in
    let q = drop n ys ++ post in
    let e : take i xs ++ (ys ++ post) ≡ p ++ q =
    ap (λ l. take i xs ++ (l ++ post)) (sym (take-append-drop n ys)) ∙ ap (λ l. take i xs ++ l) (append_assoc (take n ys) (drop n ys) post)
    ∙ sym (append_assoc (take i xs) (take n ys) q) in
    ap (take (i + n)) e ∙ take_at p q (i + n) (length-append (take i xs) (take n ys) ∙ omega (arith, length-take-le i xs wi, length-take-le n ys wn))

ended : (a b c : SourceState) (x y : List ℕ) (size n : ℕ) → Takes a b x → length x < size → Consumes b.remaining c.remaining (take n y) → n ≤ 0 → IsAtEnd c.remaining → TakesFewer a c size
ended a b c x y size n t few more none end = record {
  taken = x ++ take n y;
  fewer = omega (arith, few, length-append x (take n y), length-take-le n y (omega (arith, none)), none);
  consumes = Consumes-trans a.remaining b.remaining c.remaining x (take n y) t.consumes more;
  stopped = inr end;
}

failed : (a b c : SourceState) (x : List ℕ) (size : ℕ) → Takes a b x → length x < size → Keeps b.remaining c.remaining → c.failures ≡ b.failures + 1 → TakesFewer a c size
failed a b c x size t few kept counted = record {
  taken = x;
  fewer = few;
  consumes = Consumes-kept a.remaining b.remaining c.remaining x t.consumes kept;
  stopped = inl (omega (arith, t.failures, counted));
}

more : (a b c : SourceState) (i n : ℕ) (xs ys : List ℕ) → i ≤ length xs → n ≤ length ys → Takes a b (take i xs)
    → Consumes b.remaining c.remaining (take n ys) → c.failures ≡ b.failures → Takes a c (take (i + n) (put_mid i (length xs - i) xs ys))
more a b c i n xs ys wi wn t next same =
    subst (Takes a c) (sym (taken_more i n xs ys wi wn))
    (record { consumes = Consumes-trans a.remaining b.remaining c.remaining (take i xs) (take n ys) t.consumes next; failures = same ∙ t.failures })

middle : (i : ℕ) (xs : List ℕ) → length (take (length xs - i) (drop i xs)) ≡ length xs - i
middle i xs = length-take-le (length xs - i) (drop i xs) (omega (arith, length-drop i xs))

sized : (i : ℕ) (xs ys : List ℕ) → i ≤ length xs → length ys ≡ length xs - i → length (put_mid i (length xs - i) xs ys) ≡ length xs
sized i xs ys wi same =
    length-append (take i xs) (ys ++ post_of i (length xs - i) xs)
    ∙ omega (arith, length-take-le i xs wi, length-append ys (post_of i (length xs - i) xs), length-drop (length xs - i) (drop i xs), length-drop i xs, same)

within_taken : (i : ℕ) (xs ys : List ℕ) → i < length xs → length ys ≡ length xs - i → length (take i xs) < length (put_mid i (length xs - i) xs ys)
within_taken i xs ys few same = omega (arith, sized i xs ys (omega arith) same, length-take-le i xs (omega arith))

within_more : (i n : ℕ) (xs ys : List ℕ) → i ≤ length xs → length ys ≡ length xs - i → n ≤ length ys → i + n ≤ length (put_mid i (length xs - i) xs ys)
within_more i n xs ys wi same wn = omega (arith, sized i xs ys wi same)

pub loop-filled-preserved : goal.loop-filled-preserved
loop-filled-preserved g c =
    let i = c.loop-filled.filled in
    let xs = c.loop-filled.buffer in
    let ys = c.take.new.buffer in
    record {
      within = within_more i c.in-Ok.count xs ys c.loop-filled.invariant.within (c.take.auto.buffer ∙ middle i xs) c.in-Ok.ensures.bound;
      takes = more _ _ _ i c.in-Ok.count xs ys c.loop-filled.invariant.within c.in-Ok.ensures.bound c.loop-filled.invariant.takes c.in-Ok.ensures.bytes.0 c.in-Ok.ensures.counted;
    }

pub returns-in_default : goal.returns-in_default
returns-in_default g c =
    let few = within_taken c.loop-filled.filled c.loop-filled.buffer c.take.new.buffer c.loop-filled-test.true (c.take.auto.buffer ∙ middle c.loop-filled.filled c.loop-filled.buffer) in
    let some : 0 < length c.take.new.buffer = omega (arith, c.take.auto.buffer ∙ middle c.loop-filled.filled c.loop-filled.buffer, c.loop-filled-test.true) in
    ended _ _ _ (take c.loop-filled.filled c.loop-filled.buffer) c.take.new.buffer _ c.in-Ok.count c.loop-filled.invariant.takes few c.in-Ok.ensures.bytes.0 c.if-count-gt0.false (c.in-Ok.ensures.bytes.1 (omega arith) some)

pub returns-in_default-2 : goal.returns-in_default-2
returns-in_default-2 g c =
    let few = within_taken c.loop-filled.filled c.loop-filled.buffer c.take.new.buffer c.loop-filled-test.true (c.take.auto.buffer ∙ middle c.loop-filled.filled c.loop-filled.buffer) in
    failed _ _ _ _ _ c.loop-filled.invariant.takes few c.in_default.ensures.bytes c.in_default.ensures.counted
