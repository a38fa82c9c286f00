-- The parts that sources give, and the blocks that they tell.
use Rattle.std.proofs.Common.{◌≡◌, ℕ, ◌+◌, ◌-◌, ◌*◌, ◌/◌, ◌<◌, ◌≤◌, List, [], ◌∷◌, ◌++◌, length, take, drop, arith, sym, ◌∙◌, ap, subst, length-append, length-drop, Option, None, Some, refl}
use Rattle.std.proofs.lemmas.List.{take_at, take_all, take-take, take-append-le, drop-append-le, length-take}
use Rattle.std.specs.Io.KnownBytes.{Consumes}
use Rattle.shards_format.specs.Stripes.{Numbering, stripe, stripes, numbers_at}
use Rattle.shards_format.specs.Parts.{number_in}
use Rattle.shards_format.specs.Pieces.{IsBody, block_size, blocks, chunk, mark_size, part_size}
use Rattle.shards_format.proofs.BlockLists.{numbers_len, number_of}
use Rattle.shards_format.proofs.FileLists.{below_rounded, length-chunk, part_len}
use Rattle.shards_format.proofs.JoinLists.{number_in-part}

-- an item of a list that has one
pub some_item : {X : Type 0} (xs : List X) → 0 < length xs → X
some_item [] h = absurd (omega (arith, h))
some_item (x ∷ xs) h = x

-- what is left of known bytes
pub left_after : (known new : Option (List ℕ)) (all taken : List ℕ) → known ≡ Some all → Consumes known new taken → (left : List ℕ) × (new ≡ Some left) × (all ≡ taken ++ left)
left_after known None all taken e c = absurd (subst (λ (k : Option (List ℕ)). Consumes k None taken) e c)
left_after known (Some left) all taken e c = (left, refl, subst (λ (k : Option (List ℕ)). Consumes k (Some left) taken) e c)

-- more than none are rounded up to more than none
pub rounded_some : (len size : ℕ) → 0 < size → 0 < len → 0 < (len + (size - 1)) / size
rounded_some len size some h = grind arith

-- a beginning as long as a chunk is the chunk
same_chunk : (size : ℕ) (part rest xs tail : List ℕ) → xs ++ rest ≡ part ++ tail → length (take size xs) ≡ length part → length part ≤ size → take size xs ≡ part
same_chunk size part rest xs tail same len few =
    let room : length part ≤ length xs = omega (arith, len, length-take size xs) in
    let first : take (length part) (xs ++ rest) ≡ part = ap (take (length part)) same ∙ take_at part tail (length part) refl in
    let own : take (length part) xs ≡ part = sym (take-append-le (length part) xs rest room) ∙ first in
    sym (take_all (length part) (take size xs) (omega (arith, len))) ∙ take-take (length part) size xs few ∙ own

-- a body has room for its next part
pub part_room : (number : Numbering) (k n : ℕ) (bytes : List ℕ) (i b count : ℕ) (body rest : List ℕ) → IsBody number k n bytes i body → b < blocks k (length bytes)
    → count ≡ stripes k (length (chunk (block_size k) b bytes)) → mark_size k i + 2 * count ≤ length (drop (b * part_size k i) (body ++ rest))
part_room number k n bytes i b count body rest is below count_is =
    let size = part_size k i in
    let own : length (chunk size b body) ≡ mark_size k i + 2 * count =
    part_len number k n (chunk (block_size k) b bytes) i (chunk size b body) (is.parts b below) ∙ ap (λ m. mark_size k i + 2 * m) (sym count_is) in
    omega (arith, own, length-take size (drop (b * size) body), length-drop (b * size) body, length-drop (b * size) (body ++ rest), length-append body rest)

module _ (number : Numbering) (k n : ℕ) (bytes : List ℕ) (i b count : ℕ) (body rest part tail : List ℕ) (is : IsBody number k n bytes i body) (below : b < blocks k (length bytes))
    (count_is : count ≡ stripes k (length (chunk (block_size k) b bytes))) (few : count ≤ 1024) (len : length part ≡ mark_size k i + 2 * count)
    (same : drop (b * part_size k i) (body ++ rest) ≡ part ++ tail) (some : 0 < k) where
  abbrev pub block : List ℕ
  block = chunk (block_size k) b bytes

  own_len : length (chunk (part_size k i) b body) ≡ length part
  own_len = part_len number k n block i (chunk (part_size k i) b body) (is.parts b below) ∙ ap (λ m. mark_size k i + 2 * m) (sym count_is) ∙ sym len

  more : 0 < count
  more =
      let within = below_rounded b (length bytes) (block_size k) (omega (arith, some)) below in
      let size : 0 < block_size k = omega (arith, some) in
      let long : 0 < length block = omega (arith, within, size, length-chunk (block_size k) b bytes) in
      subst (λ m. 0 < m) (sym count_is) (rounded_some (length block) (2 * k) (omega (arith, some)) long)

  inside : b * part_size k i ≤ length body
  inside = omega (arith, own_len, len, more, length-take (part_size k i) (drop (b * part_size k i) body), length-drop (b * part_size k i) body)

  -- what was taken is the body's part
  part_taken : chunk (part_size k i) b body ≡ part
  part_taken =
      same_chunk (part_size k i) part rest (drop (b * part_size k i) body) tail (sym (drop-append-le (b * part_size k i) body rest inside) ∙ same) own_len (omega (arith, len, few))

  pub number_taken : (s : ℕ) → s < count → number_in k i part s ≡ number k n (stripe count block s) i
  number_taken s h =
      let within : s < stripes k (length block) = subst (λ m. s < m) count_is h in
      ap (λ xs. number_in k i xs s) (sym part_taken)
      ∙ number_in-part k i (numbers_at number k n block i) (chunk (part_size k i) b body) s (is.parts b below) (subst (λ m. s < m) (sym (numbers_len number k n i block)) within)
      ∙ number_of number k n i block s within ∙ ap (λ m. number k n (stripe m block s) i) (sym count_is)
