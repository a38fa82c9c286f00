-- The blocks of a file and the parts of a body.
use Rattle.std.proofs.Common.{◌≡◌, ℕ, ◌+◌, ◌-◌, ◌*◌, ◌/◌, ◌<◌, ◌≤◌, min, List, [], ◌++◌, length, take, drop, arith, sym, ◌∙◌, ap, ap₂, subst, refl, below_more, add_assoc, inl, inr}
use Rattle.std.proofs.lemmas.List.{length-take, length-drop, length-append, take-append-le, drop-append-le, drop_at, take_all}
use Rattle.std.proofs.lemmas.Bool.{cases_lt}
use Rattle.std.proofs.lemmas.Bool.Decides.{nat_tests}
use Rattle.std.proofs.Math.Nat.{mul-add-div_right}
use Rattle.shards_format.proofs.BlockLists.{row_end, numbers_len}
use Rattle.shards_format.specs.Stripes.{Numbering, stripes, numbers_at}
use Rattle.shards_format.specs.Parts.{IsPart}
use Rattle.shards_format.specs.Pieces.{IsBody, block_size, blocks, body_size, chunk, mark_size, part_size}
use Rattle.shards_format.specs.Files.{HaveParts}

-- ---- sizes

-- so many rounded up, by the product
pub below_rounded : (b len size : ℕ) → 0 < size → b < (len + (size - 1)) / size → b * size < len
below_rounded b len size some h = grind arith

pub rounded_room : (len size : ℕ) → 0 < size → len ≤ (len + (size - 1)) / size * size
rounded_room len size some = grind arith

-- whole chunks and a rest, rounded up
pub rounded_more : (b rest size : ℕ) → 0 < size → (b * size + rest + (size - 1)) / size ≡ b + (rest + (size - 1)) / size
rounded_more b rest size some = ap (λ x. x / size) (add_assoc (b * size) rest (size - 1)) ∙ mul-add-div_right some b (rest + (size - 1))

pub rounded_few : (rest size n : ℕ) → 0 < size → rest ≤ n * size → (rest + (size - 1)) / size ≤ n
rounded_few rest size n some h = grind arith

pub rounded_one : (rest size : ℕ) → 0 < rest → rest ≤ size → (rest + (size - 1)) / size ≡ 1
rounded_one rest size some h = grind arith

-- as many stripes as a block has
stripes_more : (k b rest : ℕ) → 0 < k → stripes k (b * block_size k + rest) ≡ b * 1024 + stripes k rest
stripes_more k b rest some =
    let e : b * block_size k ≡ b * 1024 * (2 * k) = omega arith in
    ap (λ x. (x + rest + (2 * k - 1)) / (2 * k)) e ∙ rounded_more (b * 1024) rest (2 * k) (omega arith)

block_some : (k : ℕ) → 0 < k → 0 < block_size k
block_some k some = omega arith

-- the marks of pieces
mark_below : (k i : ℕ) → i < k → mark_size k i ≡ 0
mark_below k i h = grind (arith, nat_tests)

mark_from : (k i : ℕ) → k ≤ i → mark_size k i ≡ 4
mark_from k i h = grind (arith, nat_tests)

by_mark : (P : ℕ → Type 0) (k i : ℕ) → P 0 → P 4 → P (mark_size k i)
by_mark P k i none some = elim (cases_lt i k) [
  | inl h ↦ subst P (sym (mark_below k i h)) none
  | inr h ↦ subst P (sym (mark_from k i h)) some
]

marks_more : (k i b x : ℕ) → mark_size k i * (b + 1) + 2 * (b * 1024 + x) ≡ b * part_size k i + (mark_size k i + 2 * x)
marks_more k i b x = by_mark (λ m. m * (b + 1) + 2 * (b * 1024 + x) ≡ b * (m + 2048) + (m + 2 * x)) k i (omega arith) (omega arith)

marks_full : (k i b : ℕ) → mark_size k i * (b + 0) + 2 * (b * 1024 + 0) ≡ b * part_size k i
marks_full k i b = by_mark (λ m. m * (b + 0) + 2 * (b * 1024 + 0) ≡ b * (m + 2048)) k i (omega arith) (omega arith)

-- the body of whole blocks and a rest
pub body_more : (k i b rest : ℕ) → 0 < k → 0 < rest → rest ≤ block_size k → body_size k i (b * block_size k + rest) ≡ b * part_size k i + (mark_size k i + 2 * stripes k rest)
body_more k i b rest some more few =
    let block = block_some k some in
    let one : blocks k (b * block_size k + rest) ≡ b + 1 = rounded_more b rest (block_size k) block ∙ ap (λ x. b + x) (rounded_one rest (block_size k) more few) in
    let all = stripes_more k b rest some in
    ap₂ (λ x y. mark_size k i * x + 2 * y) one all ∙ marks_more k i b (stripes k rest)

none_rounded : (size : ℕ) → 0 < size → (0 + (size - 1)) / size ≡ 0
none_rounded size some = grind arith

pub body_full : (k i b : ℕ) → 0 < k → body_size k i (b * block_size k) ≡ b * part_size k i
body_full k i b some =
    let block = block_some k some in
    let none : blocks k (b * block_size k + 0) ≡ b + 0 = rounded_more b 0 (block_size k) block ∙ ap (λ x. b + x) (none_rounded (block_size k) block) in
    let all : stripes k (b * block_size k + 0) ≡ b * 1024 + 0 = stripes_more k b 0 some ∙ ap (λ x. b * 1024 + x) (none_rounded (2 * k) (omega arith)) in
    let zero_is : b * block_size k + 0 ≡ b * block_size k = omega arith in
    ap (body_size k i) (sym zero_is) ∙ ap₂ (λ x y. mark_size k i * x + 2 * y) none all ∙ marks_full k i b

-- ---- chunks

pub length-chunk : (size b : ℕ) (xs : List ℕ) → length (chunk size b xs) ≡ min size (length xs - b * size)
length-chunk size b xs = simp (length-take, length-drop) refl

-- a chunk of what there was
pub chunk_before : (size a n : ℕ) (xs ys : List ℕ) → length xs ≡ n * size → a < n → chunk size a (xs ++ ys) ≡ chunk size a xs
chunk_before size a n xs ys len h =
    let start : a * size + size ≤ length xs = subst (λ m. a * size + size ≤ m) (sym len) (row_end a n size h) in
    let room : size ≤ length (drop (a * size) xs) = simp length-drop (omega (arith, start)) in
    ap (take size) (drop-append-le (a * size) xs ys (omega (arith, start))) ∙ take-append-le size (drop (a * size) xs) ys room

-- the chunk that follows
pub chunk_next : (size n : ℕ) (xs ys : List ℕ) → length xs ≡ n * size → length ys ≤ size → chunk size n (xs ++ ys) ≡ ys
chunk_next size n xs ys len few = ap (take size) (drop_at xs ys (n * size) len) ∙ take_all size ys few

least_sum : (x size len m : ℕ) → x < len → m ≡ min size (len - x) → min (x + size) len ≡ x + m
least_sum x size len m h e = omega arith

next_end : (b size len m : ℕ) → b * size < len → m ≡ min size (len - b * size) → min ((b + 1) * size) len ≡ b * size + m
next_end b size len m h e = ap (λ x. min x len) (let more : (b + 1) * size ≡ b * size + size = omega arith in more) ∙ least_sum (b * size) size len m h e

-- ---- one part more

pub part_len : (number : Numbering) (k n : ℕ) (block : List ℕ) (i : ℕ) (part : List ℕ) → IsPart k i (numbers_at number k n block i) part
    → length part ≡ mark_size k i + 2 * stripes k (length block)
part_len number k n block i part is = elim (cases_lt i k) [
  | inl h ↦ omega (arith, (is.plain h).len, mark_below k i h, numbers_len number k n i block)
  | inr h ↦ omega (arith, (is.marked h).len, mark_from k i h, numbers_len number k n i block)
]

module _ (number : Numbering) (k n : ℕ) (bytes : List ℕ) (i : ℕ) (some : 0 < k) where
  pub no_parts : HaveParts number k n bytes i 0 []
  no_parts = record {
    len = (let none : 0 ≡ 0 * part_size k i = omega arith in none) ∙ sym (ap (body_size k i) (let e : min (0 * block_size k) (length bytes) ≡ 0 * block_size k = omega arith in e) ∙ body_full k i 0 some);
    parts = λ a h. absurd (omega (arith, h));
  }

  pub parts_more : (b : ℕ) (body part : List ℕ) → b < blocks k (length bytes) → HaveParts number k n bytes i b body
      → IsPart k i (numbers_at number k n (chunk (block_size k) b bytes) i) part → HaveParts number k n bytes i (b + 1) (body ++ part)
  parts_more b body part below have is =
      let size = block_size k in
      let block = chunk size b bytes in
      let inside : b * size < length bytes = below_rounded b (length bytes) size (block_some k some) below in
      let before : length body ≡ b * part_size k i = have.len ∙ ap (body_size k i) (let e : min (b * size) (length bytes) ≡ b * size = omega (arith, inside) in e) ∙ body_full k i b some in
      let rest = length-chunk size b bytes in
      let block_more : 0 < length block = omega (arith, rest, inside, block_some k some) in
      let block_few : length block ≤ size = omega (arith, rest) in
      let added = part_len number k n block i part is in
      let size_is : block_size k ≡ 1024 * (2 * k) = omega arith in
      let few : stripes k (length block) ≤ 1024 = rounded_few (length block) (2 * k) 1024 (omega arith) (subst (λ m. length block ≤ m) size_is block_few) in
      let upto : min ((b + 1) * size) (length bytes) ≡ b * size + length block = next_end b size (length bytes) (length block) inside rest in
      record {
        len = length-append body part ∙ ap₂ (λ x y. x + y) before added ∙ sym (ap (body_size k i) upto ∙ body_more k i b (length block) some block_more block_few);
        parts = below_more _ _
            (λ a h. subst (IsPart k i (numbers_at number k n (chunk size a bytes) i)) (sym (chunk_before (part_size k i) a b body part before h)) (have.parts a h))
            (subst (IsPart k i (numbers_at number k n block i)) (sym (chunk_next (part_size k i) b body part before (omega (arith, added, few)))) is);
      }

  -- all blocks have their parts
  pub whole_body : (body : List ℕ) → HaveParts number k n bytes i (blocks k (length bytes)) body → IsBody number k n bytes i body
  whole_body body have =
      let room = rounded_room (length bytes) (block_size k) (block_some k some) in
      record {
        len = have.len ∙ ap (body_size k i) (let e : min (blocks k (length bytes) * block_size k) (length bytes) ≡ length bytes = omega (arith, room) in e);
        parts = have.parts;
      }
