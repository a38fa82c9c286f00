use Rattle.std.proofs.Common.{◌≡◌, ℕ, ◌<◌, ◌≤◌, ◌*◌, ◌+◌, ◌-◌, min, arith, rules, length, get_or, map, List, [], sym, subst, ap, ◌∙◌, refl, Vec, Global}
use Rattle.ark_bytes.specs.Reading.{TakesFewer}
use Rattle.shards_format.specs.Stripes.{stripe, stripes, numbers_at}
use Rattle.shards_format.specs.Parts.{IsPart}
use Rattle.shards_format.specs.Pieces.{block_size, blocks, mark_size}
use Rattle.shards_streams.specs.declared.reader.PieceReader.{PieceReader}
use Rattle.shards_streams.specs.declared.writer.PieceWriter.{PieceWriter}
use Rattle.shards_streams.specs.Readers.{reader_state}
use Rattle.shards_streams.specs.Writers.{Took}
use Rattle.shards_streams.specs.Joining.{GavePart}
use Rattle.shards_streams.proofs.Joined.{few_stripes, source_failed}
use Rattle.shards_streams.proofs.Remade.{RemadeBlocks, nothing_made, all_remade, block_remade}
use Rattle.shards_streams.proofs.repairing.remake_bodies.Goals as goal

pub loop-b-init : goal.loop-b-init
loop-b-init g c =
    let code = g.C.StripeCode in
    let some : 0 < code.k_of c.args.code.now = subst (λ m. 0 < m) c.k-k.ensures.k c.k-k.ensures.positive in
    record {
      len = refl;
      blocks = nothing_made g.R.Source g.W.Sink code.number (code.k_of c.args.code.now) (code.n_of c.args.code.now) c.args.lost.now.chosen.places.now c.args.lost.now.places.now
          c.args.lost.now.chosen.trailer.now.len c.args.readers.now c.args.writers.now some c.requires.readers;
    }

pub loop-b-preserved : goal.loop-b-preserved
loop-b-preserved g c =
    let code = g.C.StripeCode in
    let k = code.k_of c.args.code.now in
    let n = code.n_of c.args.code.now in
    let b = c.loop-b.b in
    let places = c.args.lost.now.chosen.places.now in
    let lost = c.args.lost.now.places.now in
    let len = c.args.lost.now.chosen.trailer.now.len in
    let want = c.min-want.result in
    let count = c.stripes-count.result in
    let some : 0 < k = subst (λ m. 0 < m) c.k-k.ensures.k c.k-k.ensures.positive in
    let size_is : block_size c.k-k.result ≡ block_size k = ap block_size c.k-k.ensures.k in
    let want_is : want ≡ min (block_size k) (len - b * block_size k) = c.min-want.ensures ∙ ap (λ m. min m (len - b * m)) size_is in
    let count_is : count ≡ stripes k want = c.stripes-count.ensures ∙ ap (λ m. stripes m want) c.k-k.ensures.k in
    let below : b < blocks k len = subst (λ m. b < m) (c.blocks-b-end.ensures ∙ ap (λ m. blocks m len) c.k-k.ensures.k) c.loop-b-test.true in
    let numbers = c.in_ok-numbers.numbers.items in
    let new = c.take_parts.new.readers in
    let given : (a : ℕ) (d : PieceReader g.row.R.Denot) → a < k → GavePart g.R.Source k (get_or places a 0) count numbers a (get_or c.loop-b.readers a d) (get_or new a d) = λ a d l.
    subst (λ m. GavePart g.R.Source m (get_or places a 0) count numbers a (get_or c.loop-b.readers a d) (get_or new a d)) c.requires.places
    (c.in_ok-numbers.ensures.parts a d (subst (λ m. a < m) (sym c.requires.places) l)) in
    let view : Vec ℕ Global → List ℕ = λ part. part.items in
    let parts : List (List ℕ) = map view c.in_ok-parts.parts.items in
    let wanted : c.in_ok-extender.extender.wanted.items ≡ lost = c.in_ok-extender.ensures.wanted in
    let inside : (j : ℕ) → j < length lost → j < length c.in_ok-extender.extender.wanted.items = λ j l. subst (λ (xs : List ℕ). j < length xs) (sym wanted) l in
    let sizes : (j : ℕ) → j < length lost → length (get_or parts j []) ≡ mark_size k (get_or lost j 0) + 2 * count = λ j l.
    subst (λ (xs : List ℕ). length (get_or parts j []) ≡ mark_size k (get_or xs j 0) + 2 * count) wanted (c.in_ok-parts.ensures.sizes j (inside j l)) in
    let made : length c.deref-in-loop-b.result.now ≡ length lost = ap length c.deref-in-loop-b.ensures.value ∙ c.in_ok-parts.ensures.len ∙ ap length wanted in
    let after = c.put_each.new.writers in
    let took : (j : ℕ) (d : PieceWriter g.row.W.Denot) → j < length lost → Took g.W.Sink (get_or c.loop-b.writers j d) (get_or after j d) (get_or parts j []) = λ j d l.
    subst (λ (xs : List (Vec ℕ Global)). Took g.W.Sink (get_or c.loop-b.writers j d) (get_or after j d) (get_or (map view xs) j [])) c.deref-in-loop-b.ensures.value
    (c.in_ok-put_each.ensures.took j d (subst (λ m. j < m) (sym made) l)) in
    record {
      len = c.put_each.ensures.len ∙ c.loop-b.invariant.len;
      blocks = block_remade g.R.Source g.W.Sink code.number k n places lost len b c.args.readers.now c.loop-b.readers c.args.writers.now c.loop-b.writers some c.loop-b.invariant.blocks below want count want_is count_is
          numbers new (c.in_ok-numbers.ensures.kept ∙ c.loop-b.invariant.blocks.read.count) given parts sizes
          (λ block small counts each j l. subst (λ (xs : List ℕ). IsPart k (get_or xs j 0) (numbers_at code.number k n block (get_or xs j 0)) (get_or parts j [])) wanted
          (c.in_ok-parts.ensures.parts block small counts (λ a s h q. ap (λ xs. get_or xs (a * count + s) 0) c.deref.ensures.value ∙ each a s h q
          ∙ ap (λ (xs : List ℕ). code.number k n (stripe count block s) (get_or xs a 0)) (sym c.in_ok-extender.ensures.given)) j (inside j l)))
          after took;
    }

pub returns-clause-remade : goal.returns-clause-remade
returns-clause-remade g c =
    let code = g.C.StripeCode in
    let k = code.k_of c.args.code.now in
    let n = code.n_of c.args.code.now in
    let places = c.args.lost.now.chosen.places.now in
    let lost = c.args.lost.now.places.now in
    let len = c.args.lost.now.chosen.trailer.now.len in
    let some : 0 < k = subst (λ m. 0 < m) c.k-k.ensures.k c.k-k.ensures.positive in
    let end : c.loop-b.b ≡ c.blocks-b-end.result = omega (arith, c.loop-b-test.false, c.loop-b.auto.b-end) in
    let all : c.loop-b.b ≡ blocks k len = end ∙ c.blocks-b-end.ensures ∙ ap (λ m. blocks m len) c.k-k.ensures.k in
    all_remade g.R.Source g.W.Sink code.number k n places lost len c.args.readers.now c.loop-b.readers c.args.writers.now c.loop-b.writers some
    (subst (λ m. RemadeBlocks g.R.Source g.W.Sink code.number k n places lost len m c.args.readers.now c.loop-b.readers c.args.writers.now c.loop-b.writers) all c.loop-b.invariant.blocks)

pub take_parts-requires-clause-few : goal.take_parts-requires-clause-few
take_parts-requires-clause-few g c =
    subst (λ m. m ≤ 1024) (sym c.stripes-count.ensures) (few_stripes c.k-k.result c.min-want.result c.k-k.ensures.positive (omega (arith, c.min-want.ensures)))

pub parts_at-requires-clause-few : goal.parts_at-requires-clause-few
parts_at-requires-clause-few g c =
    subst (λ m. m ≤ 1024) (sym c.stripes-count.ensures) (few_stripes c.k-k.result c.min-want.result c.k-k.ensures.positive (omega (arith, c.min-want.ensures)))

pub returns-in_err-numbers-clause-read : goal.returns-in_err-numbers-clause-read
returns-in_err-numbers-clause-read g c = λ bytes a d within same small counts have.
    let code = g.C.StripeCode in
    let k = code.k_of c.args.code.now in
    let n = code.n_of c.args.code.now in
    let b = c.loop-b.b in
    let places = c.args.lost.now.chosen.places.now in
    let len = c.args.lost.now.chosen.trailer.now.len in
    let want = c.min-want.result in
    let count = c.stripes-count.result in
    let some : 0 < k = subst (λ m. 0 < m) c.k-k.ensures.k c.k-k.ensures.positive in
    let size_is : block_size c.k-k.result ≡ block_size k = ap block_size c.k-k.ensures.k in
    let want_is : want ≡ min (block_size k) (len - b * block_size k) = c.min-want.ensures ∙ ap (λ m. min m (len - b * m)) size_is in
    let count_is : count ≡ stripes k want = c.stripes-count.ensures ∙ ap (λ m. stripes m want) c.k-k.ensures.k in
    let below : b < blocks k len = subst (λ m. b < m) (c.blocks-b-end.ensures ∙ ap (λ m. blocks m len) c.k-k.ensures.k) c.loop-b-test.true in
    source_failed g.R.Source code.number k n places len b c.args.readers.now c.loop-b.readers some c.loop-b.invariant.blocks.read below want count want_is count_is a d (get_or c.take_parts.new.readers a d) within
    (subst (λ m. TakesFewer (reader_state g.R.Source (get_or c.loop-b.readers a d)) (reader_state g.R.Source (get_or c.take_parts.new.readers a d)) (mark_size m (get_or places a 0) + 2 * count)) c.requires.places
    (c.take_parts.ensures.fewer a d (search rules))) bytes small counts have
