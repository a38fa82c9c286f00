use Rattle.std.proofs.Common.{◌≡◌, ℕ, ◌<◌, ◌≤◌, ◌*◌, ◌+◌, ◌-◌, min, arith, rules, length, get_or, take, sym, subst, ap, ◌∙◌}
use Rattle.ark_bytes.specs.Reading.{TakesFewer}
use Rattle.shards_format.specs.Stripes.{stripe, stripes}
use Rattle.shards_format.specs.Pieces.{block_size, blocks, mark_size}
use Rattle.shards_streams.specs.declared.reader.PieceReader.{PieceReader}
use Rattle.shards_streams.specs.Readers.{reader_state}
use Rattle.shards_streams.specs.Joining.{GavePart}
use Rattle.shards_streams.proofs.Results.{err_any}
use Rattle.shards_streams.proofs.Joined.{JoinedBlocks, few_stripes, no_block, all_joined, begun, block_begun, blocks_joined, source_failed}
use Rattle.shards_streams.proofs.joining.join_bodies.Goals as goal

pub loop-b-init : goal.loop-b-init
loop-b-init g c =
    let code = g.C.StripeCode in
    let some : 0 < code.k_of c.args.code.now = subst (λ m. 0 < m) c.k-k.ensures.k c.k-k.ensures.positive in
    no_block g.R.Source code.number (code.k_of c.args.code.now) (code.n_of c.args.code.now) c.args.chosen.now.places.now c.args.chosen.now.trailer.now.len (g.W.Sink.contents c.args.sink.now) c.args.readers.now some c.requires.readers

pub loop-b-preserved : goal.loop-b-preserved
loop-b-preserved g c =
    let code = g.C.StripeCode in
    let k = code.k_of c.args.code.now in
    let n = code.n_of c.args.code.now in
    let b = c.loop-b.b in
    let places = c.args.chosen.now.places.now in
    let len = c.args.chosen.now.trailer.now.len in
    let want = c.min-want.result in
    let count = c.stripes-count.result in
    let some : 0 < k = subst (λ m. 0 < m) c.k-k.ensures.k c.k-k.ensures.positive in
    let size_is : block_size c.k-k.result ≡ block_size k = ap block_size c.k-k.ensures.k in
    let want_is : want ≡ min (block_size k) (len - b * block_size k) = c.min-want.ensures ∙ ap (λ m. min m (len - b * m)) size_is in
    let count_is : count ≡ stripes k want = c.stripes-count.ensures ∙ ap (λ m. stripes m want) c.k-k.ensures.k in
    let below : b < blocks k len = subst (λ m. b < m) (c.blocks-b-end.ensures ∙ ap (λ m. blocks m len) c.k-k.ensures.k) c.loop-b-test.true in
    let numbers = c.in_ok-numbers.numbers.items in
    let new = c.take_parts.new.readers in
    let parts : (a : ℕ) (d : PieceReader g.row.R.Denot) → a < k → GavePart g.R.Source k (get_or places a 0) count numbers a (get_or c.loop-b.readers a d) (get_or new a d) = λ a d l.
    subst (λ m. GavePart g.R.Source m (get_or places a 0) count numbers a (get_or c.loop-b.readers a d) (get_or new a d)) c.requires.places
    (c.in_ok-numbers.ensures.parts a d (subst (λ m. a < m) (sym c.requires.places) l)) in
    let restored = c.deref-in-loop-b.result.now in
    let is = c.deref-in-loop-b.ensures.value in
    blocks_joined g.R.Source code.number k n places len b c.args.readers.now c.loop-b.readers some c.loop-b.invariant.read below want count want_is count_is numbers new (c.in_ok-numbers.ensures.kept ∙ c.loop-b.invariant.read.count) parts
    (g.W.Sink.contents c.args.sink.now) (g.W.Sink.contents c.loop-b.sink) c.loop-b.invariant.wrote restored
    (λ block small counts each. ap (take (length block)) is ∙ c.in_ok-block.ensures.block block small counts (λ a s l q. ap (λ xs. get_or xs (a * count + s) 0) c.deref.ensures.value ∙ each a s l q
    ∙ ap (λ xs. code.number k n (stripe count block s) (get_or xs a 0)) (sym c.in_ok-extender.ensures.given)))
    (ap length is ∙ c.in_ok-block.ensures.len) (g.W.Sink.contents c.put.new.sink) c.in_ok-put.ensures.took

pub returns-in_err-numbers-clause-beginning : goal.returns-in_err-numbers-clause-beginning
returns-in_err-numbers-clause-beginning g c =
    let code = g.C.StripeCode in
    let k = code.k_of c.args.code.now in
    let n = code.n_of c.args.code.now in
    let b = c.loop-b.b in
    let places = c.args.chosen.now.places.now in
    let len = c.args.chosen.now.trailer.now.len in
    let want = c.min-want.result in
    let count = c.stripes-count.result in
    let some : 0 < k = subst (λ m. 0 < m) c.k-k.ensures.k c.k-k.ensures.positive in
    let size_is : block_size c.k-k.result ≡ block_size k = ap block_size c.k-k.ensures.k in
    let want_is : want ≡ min (block_size k) (len - b * block_size k) = c.min-want.ensures ∙ ap (λ m. min m (len - b * m)) size_is in
    let count_is : count ≡ stripes k want = c.stripes-count.ensures ∙ ap (λ m. stripes m want) c.k-k.ensures.k in
    let below : b < blocks k len = subst (λ m. b < m) (c.blocks-b-end.ensures ∙ ap (λ m. blocks m len) c.k-k.ensures.k) c.loop-b-test.true in
    err_any _ _ (begun g.R.Source code.number k n places len b c.args.readers.now c.loop-b.readers some c.loop-b.invariant.read below want count want_is count_is (g.W.Sink.contents c.args.sink.now) (g.W.Sink.contents c.loop-b.sink) c.loop-b.invariant.wrote)

pub returns-in_err-numbers-clause-read : goal.returns-in_err-numbers-clause-read
returns-in_err-numbers-clause-read g c = λ bytes a d within same small counts have.
    let code = g.C.StripeCode in
    let k = code.k_of c.args.code.now in
    let n = code.n_of c.args.code.now in
    let b = c.loop-b.b in
    let places = c.args.chosen.now.places.now in
    let len = c.args.chosen.now.trailer.now.len in
    let want = c.min-want.result in
    let count = c.stripes-count.result in
    let some : 0 < k = subst (λ m. 0 < m) c.k-k.ensures.k c.k-k.ensures.positive in
    let size_is : block_size c.k-k.result ≡ block_size k = ap block_size c.k-k.ensures.k in
    let want_is : want ≡ min (block_size k) (len - b * block_size k) = c.min-want.ensures ∙ ap (λ m. min m (len - b * m)) size_is in
    let count_is : count ≡ stripes k want = c.stripes-count.ensures ∙ ap (λ m. stripes m want) c.k-k.ensures.k in
    let below : b < blocks k len = subst (λ m. b < m) (c.blocks-b-end.ensures ∙ ap (λ m. blocks m len) c.k-k.ensures.k) c.loop-b-test.true in
    source_failed g.R.Source code.number k n places len b c.args.readers.now c.loop-b.readers some c.loop-b.invariant.read below want count want_is count_is a d (get_or c.take_parts.new.readers a d) within
    (subst (λ m. TakesFewer (reader_state g.R.Source (get_or c.loop-b.readers a d)) (reader_state g.R.Source (get_or c.take_parts.new.readers a d)) (mark_size m (get_or places a 0) + 2 * count)) c.requires.places
    (c.take_parts.ensures.fewer a d (search rules))) bytes small counts have

pub returns-in_err-block-clause-beginning : goal.returns-in_err-block-clause-beginning
returns-in_err-block-clause-beginning g c =
    let code = g.C.StripeCode in
    let k = code.k_of c.args.code.now in
    let n = code.n_of c.args.code.now in
    let b = c.loop-b.b in
    let places = c.args.chosen.now.places.now in
    let len = c.args.chosen.now.trailer.now.len in
    let want = c.min-want.result in
    let count = c.stripes-count.result in
    let some : 0 < k = subst (λ m. 0 < m) c.k-k.ensures.k c.k-k.ensures.positive in
    let size_is : block_size c.k-k.result ≡ block_size k = ap block_size c.k-k.ensures.k in
    let want_is : want ≡ min (block_size k) (len - b * block_size k) = c.min-want.ensures ∙ ap (λ m. min m (len - b * m)) size_is in
    let count_is : count ≡ stripes k want = c.stripes-count.ensures ∙ ap (λ m. stripes m want) c.k-k.ensures.k in
    let below : b < blocks k len = subst (λ m. b < m) (c.blocks-b-end.ensures ∙ ap (λ m. blocks m len) c.k-k.ensures.k) c.loop-b-test.true in
    err_any _ _ (begun g.R.Source code.number k n places len b c.args.readers.now c.loop-b.readers some c.loop-b.invariant.read below want count want_is count_is (g.W.Sink.contents c.args.sink.now) (g.W.Sink.contents c.loop-b.sink) c.loop-b.invariant.wrote)

pub returns-in_err-put-clause-beginning : goal.returns-in_err-put-clause-beginning
returns-in_err-put-clause-beginning g c =
    let code = g.C.StripeCode in
    let k = code.k_of c.args.code.now in
    let n = code.n_of c.args.code.now in
    let b = c.loop-b.b in
    let places = c.args.chosen.now.places.now in
    let len = c.args.chosen.now.trailer.now.len in
    let want = c.min-want.result in
    let count = c.stripes-count.result in
    let some : 0 < k = subst (λ m. 0 < m) c.k-k.ensures.k c.k-k.ensures.positive in
    let size_is : block_size c.k-k.result ≡ block_size k = ap block_size c.k-k.ensures.k in
    let want_is : want ≡ min (block_size k) (len - b * block_size k) = c.min-want.ensures ∙ ap (λ m. min m (len - b * m)) size_is in
    let count_is : count ≡ stripes k want = c.stripes-count.ensures ∙ ap (λ m. stripes m want) c.k-k.ensures.k in
    let below : b < blocks k len = subst (λ m. b < m) (c.blocks-b-end.ensures ∙ ap (λ m. blocks m len) c.k-k.ensures.k) c.loop-b-test.true in
    let numbers = c.in_ok-numbers.numbers.items in
    let new = c.take_parts.new.readers in
    let parts : (a : ℕ) (d : PieceReader g.row.R.Denot) → a < k → GavePart g.R.Source k (get_or places a 0) count numbers a (get_or c.loop-b.readers a d) (get_or new a d) = λ a d l.
    subst (λ m. GavePart g.R.Source m (get_or places a 0) count numbers a (get_or c.loop-b.readers a d) (get_or new a d)) c.requires.places
    (c.in_ok-numbers.ensures.parts a d (subst (λ m. a < m) (sym c.requires.places) l)) in
    let restored = c.deref-in-loop-b.result.now in
    let is = c.deref-in-loop-b.ensures.value in
    err_any _ _ (block_begun g.R.Source code.number k n places len b c.args.readers.now c.loop-b.readers some c.loop-b.invariant.read below want count want_is count_is numbers new (c.in_ok-numbers.ensures.kept ∙ c.loop-b.invariant.read.count) parts
    (g.W.Sink.contents c.args.sink.now) (g.W.Sink.contents c.loop-b.sink) c.loop-b.invariant.wrote restored
    (λ block small counts each. ap (take (length block)) is ∙ c.in_ok-block.ensures.block block small counts (λ a s l q. ap (λ xs. get_or xs (a * count + s) 0) c.deref.ensures.value ∙ each a s l q
    ∙ ap (λ xs. code.number k n (stripe count block s) (get_or xs a 0)) (sym c.in_ok-extender.ensures.given)))
    (ap length is ∙ c.in_ok-block.ensures.len) (g.W.Sink.contents c.put.new.sink) c.in_err-put.ensures.some)

pub returns-clause-restored : goal.returns-clause-restored
returns-clause-restored g c =
    let code = g.C.StripeCode in
    let k = code.k_of c.args.code.now in
    let n = code.n_of c.args.code.now in
    let places = c.args.chosen.now.places.now in
    let len = c.args.chosen.now.trailer.now.len in
    let some : 0 < k = subst (λ m. 0 < m) c.k-k.ensures.k c.k-k.ensures.positive in
    let end : c.loop-b.b ≡ c.blocks-b-end.result = omega (arith, c.loop-b-test.false, c.loop-b.auto.b-end) in
    let all : c.loop-b.b ≡ blocks k len = end ∙ c.blocks-b-end.ensures ∙ ap (λ m. blocks m len) c.k-k.ensures.k in
    all_joined g.R.Source code.number k n places len (g.W.Sink.contents c.args.sink.now) (g.W.Sink.contents c.loop-b.sink) c.args.readers.now c.loop-b.readers some
    (subst (λ m. JoinedBlocks g.R.Source code.number k n places len m (g.W.Sink.contents c.args.sink.now) (g.W.Sink.contents c.loop-b.sink) c.args.readers.now c.loop-b.readers) all c.loop-b.invariant)

pub take_parts-requires-clause-few : goal.take_parts-requires-clause-few
take_parts-requires-clause-few g c =
    subst (λ m. m ≤ 1024) (sym c.stripes-count.ensures) (few_stripes c.k-k.result c.min-want.result c.k-k.ensures.positive (omega (arith, c.min-want.ensures)))

pub block_of-requires-clause-few : goal.block_of-requires-clause-few
block_of-requires-clause-few g c =
    subst (λ m. m ≤ 1024) (sym c.stripes-count.ensures) (few_stripes c.k-k.result c.min-want.result c.k-k.ensures.positive (omega (arith, c.min-want.ensures)))
