-- The numbers of a part, and those of a body, tell its bytes.
use Rattle.std.proofs.Common.{◌≡◌, ℕ, zero, suc, ◌+◌, ◌*◌, ◌<◌, ◌≤◌, List, ◌++◌, length, get_or, take, arith, sym, ◌∙◌, ap, ap₂, subst, inl, inr}
use Rattle.std.proofs.lemmas.List.{take_all}
use Rattle.std.proofs.lemmas.Bool.{cases_lt}
use Rattle.shards_format.specs.Stripes.{Numbering, item, stripes, numbers_at}
use Rattle.shards_format.specs.Parts.{IsMark, IsMarked, IsPart, IsPlain, shown}
use Rattle.shards_format.specs.Pieces.{IsBody, block_size, blocks, body_size, chunk, part_size}
use Rattle.shards_format.proofs.BlockLists.{bytes_by_items, item_small}
use Rattle.shards_format.proofs.FileLists.{rounded_few, rounded_room}
use Rattle.shards_format.proofs.JoinLists.{block_next}

-- ---- parts

-- bytes of the same items
same_items : (p q : List ℕ) (n : ℕ) → ((i : ℕ) → get_or p i 0 < 256) → ((i : ℕ) → get_or q i 0 < 256) → length p ≡ 2 * n → length q ≡ 2 * n
    → ((j : ℕ) → j < n → item p j ≡ item q j) → p ≡ q
same_items p q n small few len size same = sym (take_all (length q) p (omega (arith, len, size))) ∙ bytes_by_items p q n small few len (omega (arith, size)) same

one_plain : (xs p q : List ℕ) → IsPlain xs p → IsPlain xs q → p ≡ q
one_plain xs p q a b = same_items p q (length xs) a.fits b.fits a.len b.len (λ j h. a.numbers j h ∙ sym (b.numbers j h))

one_mark : (xs : List ℕ) (x y : ℕ) → IsMark xs x → IsMark xs y → x ≡ y
one_mark xs x y a b = elim (cases_lt x y) [
  | inl h ↦ let none = b.least x h a.unused in a.highest none ∙ sym (b.highest none)
  | inr h ↦ elim (cases_lt y x) [
    | inl l ↦ let none = a.least y l b.unused in a.highest none ∙ sym (b.highest none)
    | inr l ↦ omega (arith, h, l)
  ]
]

-- what holds of the first two and of those behind them holds of all
by_two : (P : ℕ → Type 0) (n : ℕ) → P 0 → P 1 → ((s : ℕ) → s < n → P (2 + s)) → (j : ℕ) → j < 2 + n → P j
by_two P n first second rest zero h = first
by_two P n first second rest (suc zero) h = second
by_two P n first second rest (suc (suc s)) h = let e : 2 + s ≡ suc (suc s) = omega arith in subst P e (rest s (omega (arith, h)))

one_pair : (x y z w m : ℕ) → x < 65536 → z < 65536 → x + 65536 * y ≡ m → z + 65536 * w ≡ m → (x ≡ z) × (y ≡ w)
one_pair x y z w m small few is same = (omega (arith, small, few, is, same), omega (arith, small, few, is, same))

one_marked : (xs p q : List ℕ) → IsMarked xs p → IsMarked xs q → p ≡ q
one_marked xs p q a b =
    let mark : a.mark ≡ b.mark = one_mark xs a.mark b.mark a.is_mark b.is_mark in
    let first = one_pair (item p 0) (item p 1) (item q 0) (item q 1) b.mark (item_small p 0 a.fits) (item_small q 0 b.fits) (a.mark_is ∙ mark) b.mark_is in
    same_items p q (2 + length xs) a.fits b.fits (omega (arith, a.len)) (omega (arith, b.len))
    (by_two (λ j. item p j ≡ item q j) (length xs) first.0 first.1 (λ s h. a.numbers s h ∙ ap (λ m. shown m (get_or xs s 0)) mark ∙ sym (b.numbers s h)))

pub one_part : (k i : ℕ) (xs p q : List ℕ) → IsPart k i xs p → IsPart k i xs q → p ≡ q
one_part k i xs p q a b = elim (cases_lt i k) [
  | inl h ↦ one_plain xs p q (a.plain h) (b.plain h)
  | inr h ↦ one_marked xs p q (a.marked h) (b.marked h)
]

-- ---- bodies

body_room : (k i len : ℕ) → 0 < k → body_size k i len ≤ blocks k len * part_size k i
body_room k i len some =
    let room : len ≤ blocks k len * block_size k = rounded_room len (block_size k) (omega (arith, some)) in
    let size_is : blocks k len * block_size k ≡ blocks k len * 1024 * (2 * k) = (let e : (b : ℕ) → b * block_size k ≡ b * 1024 * (2 * k) = λ b. omega arith in e (blocks k len)) in
    let few : stripes k len ≤ blocks k len * 1024 = rounded_few len (2 * k) (blocks k len * 1024) (omega (arith, some)) (subst (λ m. len ≤ m) size_is room) in
    let all : (m b s : ℕ) → s ≤ b * 1024 → m * b + 2 * s ≤ b * (m + 2048) = λ m b s h. omega (arith, h) in
    all _ (blocks k len) (stripes k len) few

-- lists of the same first chunks
same_chunks : (size n : ℕ) (p q : List ℕ) → ((b : ℕ) → b < n → chunk size b p ≡ chunk size b q) → take (n * size) p ≡ take (n * size) q
same_chunks size zero p q each = let none : 0 * size ≡ 0 = omega arith in ap (λ m. take m p) none ∙ sym (ap (λ m. take m q) none)
same_chunks size (suc n) p q each =
    let next : (n + 1) * size ≡ suc n * size = ap (λ m. m * size) (let e : n + 1 ≡ suc n = omega arith in e) in
    subst (λ m. take m p ≡ take m q) next
    (sym (block_next size n p) ∙ ap₂ (λ (x y : List ℕ). x ++ y) (same_chunks size n p q (λ b h. each b (omega (arith, h)))) (each n (omega arith)) ∙ block_next size n q)

pub same_body : (number : Numbering) (k n : ℕ) (bytes : List ℕ) (i : ℕ) (p q : List ℕ) → 0 < k → IsBody number k n bytes i p → IsBody number k n bytes i q → p ≡ q
same_body number k n bytes i p q some a b =
    let count = blocks k (length bytes) in
    let size = part_size k i in
    let room = body_room k i (length bytes) some in
    sym (take_all (count * size) p (omega (arith, room, a.len))) ∙ same_chunks size count p q
    (λ c h. one_part k i (numbers_at number k n (chunk (block_size k) c bytes) i) (chunk size c p) (chunk size c q) (a.parts c h) (b.parts c h))
    ∙ take_all (count * size) q (omega (arith, room, b.len))
