-- Numbers read part by part, and blocks joined.
use Rattle.std.proofs.Common.{◌≡◌, ℕ, ◌+◌, ◌*◌, ◌<◌, ◌≤◌, List, ◌++◌, length, get_or, take, drop, arith, sym, ◌∙◌, ap, ap₂, subst, below_more, inl, inr}
use borrow.Rule.Slice.PartMut.{put_mid, post_of}
use Rattle.std.proofs.lemmas.List.{length-take-le, get_or_append_left, get_or-append-add, get_or-take, get_or-drop, get_or_past, length-take, take-take, drop-take, take-append-drop}
use Rattle.std.proofs.lemmas.Bool.{cases_lt}
use Rattle.std.proofs.lemmas.Bool.Decides.{nat_tests}
use Rattle.shards_format.proofs.BlockLists.{row_end}
use Rattle.shards_format.specs.Pieces.{chunk}
use Rattle.shards_format.specs.Stripes.{item}
use Rattle.shards_format.specs.Parts.{IsMarked, IsPart, number_after_mark, number_in, shown, read}

mid_here : (start width : ℕ) (xs ys : List ℕ) (s : ℕ) → start ≤ length xs → s < length ys → get_or (put_mid start width xs ys) (start + s) 0 ≡ get_or ys s 0
mid_here start width xs ys s room h =
    let front = length-take-le start xs room in
    ap (λ m. get_or (put_mid start width xs ys) (m + s) 0) (sym front)
    ∙ get_or-append-add (take start xs) (ys ++ post_of start width xs) s 0 ∙ get_or_append_left ys (post_of start width xs) 0 s h

mid_before : (start width : ℕ) (xs ys : List ℕ) (i : ℕ) → start ≤ length xs → i < start → get_or (put_mid start width xs ys) i 0 ≡ get_or xs i 0
mid_before start width xs ys i room h =
    let front = length-take-le start xs room in
    get_or_append_left (take start xs) (ys ++ post_of start width xs) 0 i (omega (arith, front)) ∙ get_or-take start xs i 0 h

-- one row of numbers more
pub rows_more : (P : ℕ → ℕ → ℕ → Type 0) (a rows count width : ℕ) (xs ys : List ℕ) → a < rows → length xs ≡ rows * count → length ys ≡ count
    → ((i s : ℕ) → i < a → s < count → P i s (get_or xs (i * count + s) 0))
    → ((s : ℕ) → s < count → P a s (get_or ys s 0))
    → (i s : ℕ) → i < a + 1 → s < count → P i s (get_or (put_mid (a * count) width xs ys) (i * count + s) 0)
rows_more P a rows count width xs ys h len size before here =
    let end : a * count + count ≤ rows * count = row_end a rows count h in
    let room : a * count ≤ length xs = omega (arith, end, len) in
    λ i s b l. below_more (λ i. P i s (get_or (put_mid (a * count) width xs ys) (i * count + s) 0)) a
    (λ i c. let last = row_end i a count c in subst (P i s) (sym (mid_before (a * count) width xs ys (i * count + s) room (omega (arith, last, l)))) (before i s c l))
    (subst (P a s) (sym (mid_here (a * count) width xs ys s room (omega (arith, l, size)))) (here s l)) i b

read-shown : (mark x : ℕ) → (mark ≡ x → ⊥) → read mark (shown mark x) ≡ x
read-shown mark x ne = grind (arith, nat_tests)

plain_number : (k i s : ℕ) (part : List ℕ) → i < k → number_in k i part s ≡ item part s
plain_number k i s part h = grind (arith, nat_tests)

marked_number : (k i s : ℕ) (part : List ℕ) → k ≤ i → number_in k i part s ≡ number_after_mark part s
marked_number k i s part h = grind (arith, nat_tests)

after_mark : (xs part : List ℕ) (s : ℕ) → IsMarked xs part → s < length xs → number_after_mark part s ≡ get_or xs s 0
after_mark xs part s is h =
    let number = is.numbers s h in
    let ne = is.is_mark.unused s h in
    ap₂ read is.mark_is number ∙ read-shown is.mark (get_or xs s 0) (λ e. ne (sym e))

-- what is read in a part
pub number_in-part : (k i : ℕ) (xs part : List ℕ) (s : ℕ) → IsPart k i xs part → s < length xs → number_in k i part s ≡ get_or xs s 0
number_in-part k i xs part s is h = elim (cases_lt i k) [
  | inl below ↦ plain_number k i s part below ∙ (is.plain below).numbers s h
  | inr from ↦ marked_number k i s part from ∙ after_mark xs part s (is.marked from) h
]

take-parts : {X : Type 0} (a b : ℕ) (xs : List X) → take a xs ++ take b (drop a xs) ≡ take (a + b) xs
take-parts a b xs =
    ap₂ (λ u v. u ++ v) (sym (take-take a (a + b) xs (omega arith))) (sym (drop-take a b xs)) ∙ take-append-drop a (take (a + b) xs)

-- a block, after those before it
pub block_next : (size b : ℕ) (bytes : List ℕ) → take (b * size) bytes ++ chunk size b bytes ≡ take ((b + 1) * size) bytes
block_next size b bytes =
    take-parts (b * size) size bytes ∙ ap (λ m. take m bytes) (let e : b * size + size ≡ (b + 1) * size = omega arith in e)

small_take : (n : ℕ) (xs : List ℕ) → ((i : ℕ) → get_or xs i 0 < 256) → (i : ℕ) → get_or (take n xs) i 0 < 256
small_take n xs small i = elim (cases_lt i n) [
  | inl h ↦ rw (get_or-take n xs i 0 h) (small i)
  | inr h ↦ let past : length (take n xs) ≤ i = simp length-take (omega (arith, h)) in rw (get_or_past (take n xs) i 0 past) (omega arith)
]

pub small_chunk : (size b : ℕ) (xs : List ℕ) → ((i : ℕ) → get_or xs i 0 < 256) → (i : ℕ) → get_or (chunk size b xs) i 0 < 256
small_chunk size b xs small = small_take size (drop (b * size) xs) (λ i. rw (get_or-drop (b * size) xs i 0) (small (b * size + i)))
