-- The pieces that have a file's own bytes.
use Rattle.std.proofs.Common.{◌≡◌, ℕ, ◌+◌, ◌*◌, ◌<◌, List, length, get_or, take, drop, arith, sym, ◌∙◌, ap, subst}
use Rattle.std.proofs.lemmas.List.{get_or-take, get_or-drop, length-take}
use Rattle.shards_format.specs.Stripes.{Numbering, item, stripe, stripes, numbers_at}
use Rattle.shards_format.specs.Parts.{IsPlain}
use Rattle.shards_format.specs.Pieces.{chunk}
use Rattle.shards_format.proofs.BlockLists.{bytes_by_items, number_of, numbers_len}
use Rattle.shards_format.proofs.JoinLists.{small_chunk}

-- an item of a run of bytes
item_of_run : (count i j : ℕ) (block : List ℕ) → j < count → item (chunk (2 * count) i block) j ≡ item block (i * count + j)
item_of_run count i j block h =
    let run = drop (i * (2 * count)) block in
    let low : get_or (chunk (2 * count) i block) (2 * j) 0 ≡ get_or block (i * (2 * count) + 2 * j) 0 =
    get_or-take (2 * count) run (2 * j) 0 (omega (arith, h)) ∙ get_or-drop (i * (2 * count)) block (2 * j) 0 in
    let high : get_or (chunk (2 * count) i block) (2 * j + 1) 0 ≡ get_or block (i * (2 * count) + (2 * j + 1)) 0 =
    get_or-take (2 * count) run (2 * j + 1) 0 (omega (arith, h)) ∙ get_or-drop (i * (2 * count)) block (2 * j + 1) 0 in
    let even : i * (2 * count) + 2 * j ≡ 2 * (i * count + j) = omega arith in
    let odd : i * (2 * count) + (2 * j + 1) ≡ 2 * (i * count + j) + 1 = omega arith in
    let first = low ∙ ap (λ m. get_or block m 0) even in
    let second = high ∙ ap (λ m. get_or block m 0) odd in
    omega (arith, first, second)

-- a part of the items at this place begins with the run at this place
pub part_of_run : (number : Numbering) (k n i : ℕ) (block part : List ℕ) → ((j : ℕ) → get_or block j 0 < 256)
    → ((s : ℕ) → number k n (stripe (stripes k (length block)) block s) i ≡ stripe (stripes k (length block)) block s i)
    → IsPlain (numbers_at number k n block i) part
    → take (length (chunk (2 * stripes k (length block)) i block)) part ≡ chunk (2 * stripes k (length block)) i block
part_of_run number k n i block part small systematic plain =
    let count = stripes k (length block) in
    let size : length (numbers_at number k n block i) ≡ count = numbers_len number k n i block in
    bytes_by_items part (chunk (2 * count) i block) count plain.fits (small_chunk (2 * count) i block small)
    (plain.len ∙ ap (λ m. 2 * m) size) (omega (arith, length-take (2 * count) (drop (i * (2 * count)) block)))
    (λ j h. plain.numbers j (subst (λ m. j < m) (sym size) h) ∙ number_of number k n i block j h ∙ systematic j ∙ sym (item_of_run count i j block h))
