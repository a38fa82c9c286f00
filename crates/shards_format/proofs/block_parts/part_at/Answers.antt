use Rattle.std.proofs.Common.{◌≡◌, ℕ, ◌+◌, ◌-◌, ◌*◌, ◌<◌, ◌≤◌, arith, length, get_or, take, drop, sym, subst, ap, ◌∙◌}
use Rattle.shards_format.specs.Stripes.{stripe, stripes, numbers_at}
use Rattle.shards_format.specs.Parts.{IsMarked}
use Rattle.shards_format.proofs.BlockLists.{item_small, plain_row, marked_row, row_of_numbers}
use Rattle.shards_format.proofs.block_parts.part_at.Goals as goal

pub returns-then-place-k : goal.returns-then-place-k
returns-then-place-k g c =
    let code = g.C.StripeCode in
    let k = code.k_of c.args.code.now in
    let n = code.n_of c.args.code.now in
    let block = c.args.block.now in
    let place = c.args.place in
    let count = c.stripes-count.result in
    let small : (i : ℕ) → get_or block i 0 < 256 = λ i. omega (arith, c.type_inv.block i) in
    let count_is : count ≡ stripes k (length block) = c.stripes-count.ensures ∙ ap (λ m. stripes m (length block)) c.k-k.ensures.k in
    let below : place < k = subst (λ m. place < m) c.k-k.ensures.k c.if-place-k.true in
    plain_row code.number k n place block count c.in_ok-plain.plain.items count_is below
    (λ s. g.met.C.StripeCode.systematic k n (stripe (stripes k (length block)) block s) place c.k-k.ensures.has below (item_small block (place * stripes k (length block) + s) small))
    c.in_ok-plain.ensures.bytes c.in_ok-plain.ensures.len c.in_ok-plain.ensures.items

pub returns : goal.returns
returns g c =
    let code = g.C.StripeCode in
    let k = code.k_of c.args.code.now in
    let n = code.n_of c.args.code.now in
    let block = c.args.block.now in
    let numbers = c.args.numbers.now in
    let place = c.args.place in
    let count = c.stripes-count.result in
    let count_is : count ≡ stripes k (length block) = c.stripes-count.ensures ∙ ap (λ m. stripes m (length block)) c.k-k.ensures.k in
    let from : k ≤ place = subst (λ m. m ≤ place) c.k-k.ensures.k c.if-place-k.false in
    let b = place - c.k-k.result in
    let row : b < n - k = omega (arith, c.k-k.ensures.k, c.requires.place, from) in
    let here : k + b ≡ place = omega (arith, c.k-k.ensures.k, from) in
    let each : (s : ℕ) → s < count → get_or numbers (b * count + s) 0 ≡ code.number k n (stripe (stripes k (length block)) block s) place = λ s h.
    ap (λ m. get_or numbers (b * m + s) 0) count_is ∙ c.requires.numbers b s row (subst (λ m. s < m) count_is h)
    ∙ ap (code.number k n (stripe (stripes k (length block)) block s)) here in
    let len : length numbers ≡ (n - k) * count = c.requires.len ∙ ap (λ m. (n - k) * m) (sym count_is) in
    let width : b * count + count - b * count ≡ count = omega arith in
    let slice : take (b * count + count - b * count) (drop (b * count) numbers) ≡ numbers_at code.number k n block place =
    ap (λ w. take w (drop (b * count) numbers)) width ∙ row_of_numbers code.number k n place block count b (n - k) numbers row len count_is each in
    marked_row code.number k n place block c.in_ok-marked.marked.items from (subst (λ xs. IsMarked xs c.in_ok-marked.marked.items) slice c.in_ok-marked.ensures)
