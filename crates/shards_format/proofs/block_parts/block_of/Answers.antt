use Rattle.std.proofs.Common.{◌≡◌, ℕ, ◌+◌, ◌*◌, ◌<◌, arith, length, get_or, take, drop, List, sym, subst, ap, ◌∙◌}
use Rattle.std.proofs.lemmas.List.{take_at}
use Rattle.shards_format.specs.Stripes.{stripe}
use Rattle.shards_format.proofs.BlockLists.{block_by_rows, item_small}
use Rattle.shards_format.proofs.block_parts.block_of.Goals as goal

pub returns-clause-block : goal.returns-clause-block
returns-clause-block g c =
    let code = g.C.StripeCode in
    let k = code.k_of c.args.code.now in
    let n = code.n_of c.args.code.now in
    let count = c.args.count in
    let new = c.put_block.new.bytes in
    let some : 0 < k = subst (λ m. 0 < m) c.k.ensures.k c.k.ensures.positive in
    let long : length new ≡ c.in_ok-bytes.bytes.len = omega (arith, c.put_block.auto.bytes, c.as_mut_slice.ensures.len) in
    let whole = take_at new (drop (length new) c.in_ok-bytes.bytes.items) c.in_ok-bytes.bytes.len long in
    let len : length new ≡ 2 * (k * count) = long ∙ c.in_ok-bytes.ensures.len ∙ ap (λ m. 2 * (m * count)) c.k.ensures.k in
    λ block few count_is numbered.
    ap (take (length block)) whole ∙ block_by_rows k count new block some c.put_block.ensures.bytes few len count_is (λ j s h l.
    c.in_ok-put_block.ensures.rows s (stripe count block s) l (λ i _. item_small block (i * count + s) few)
    (λ a h. numbered a s h l ∙ ap (λ (xs : List ℕ). code.number k n (stripe count block s) (get_or xs a 0)) (sym c.deref.ensures.value)) j h)
