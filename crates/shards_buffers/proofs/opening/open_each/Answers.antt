use Rattle.std.proofs.Common.{◌≡◌, ◌+◌, ◌<◌, ◌++◌, [], ◌∷◌, List, ℕ, arith, rules, subst, subst₂, inr, refl}
use Rattle.shards_buffers.specs.Opened.{HasOpened, HaveOpened}
use Rattle.shards_buffers.proofs.Opened.{Reader, next_left, none_opened, one_opened}
use Rattle.shards_buffers.proofs.opening.open_each.Goals as goal

pub loop-init : goal.loop-init
loop-init g c =
    let k = g.C.StripeCode.k_of c.args.code.now in
    let n = g.C.StripeCode.n_of c.args.code.now in
    let run = c.args.pieces.now in
    let places : [] ≡ c.new-places.result.items = search rules in
    let readers : [] ≡ c.new-readers.result.items = search rules in
    subst₂ (λ (ps : List ℕ) (rs : List Reader). HaveOpened k n c.args.len 0 run run ps rs) places readers (none_opened k n c.args.len run)

pub loop-preserved : goal.loop-preserved
loop-preserved g c =
    let k = g.C.StripeCode.k_of c.args.code.now in
    let n = g.C.StripeCode.n_of c.args.code.now in
    let run = c.args.pieces.now in
    let places = c.loop.places.items in
    let readers = c.loop.readers.items in
    let header = c.in-Some.header in
    let reader = c.in_ok-reader-in-Some.reader in
    let piece = c.in-Some.piece.now in
    let behind = c.in-Some.behind.now in
    let here : HasOpened k n c.args.len header.number piece reader = record {
      label_len = header.label_len;
      sized = c.in-Some.ensures.piece;
      passed = c.in_ok-reader-in-Some.ensures.passed;
    } in
    let all = one_opened k n c.args.len c.loop.counter run c.loop.rest.now places readers c.loop.invariant header.number piece behind reader here c.in-Some.ensures.is in
    let found : places ++ header.number ∷ [] ≡ c.push.new.self.items = search rules in
    let made : readers ++ reader ∷ [] ≡ c.push-in-Some.new.self.items = search rules in
    subst₂ (λ (ps : List ℕ) (rs : List Reader). HaveOpened k n c.args.len (c.loop.counter + 1) run behind ps rs) found made all

pub returns-in-None-clause-errors : goal.returns-in-None-clause-errors
returns-in-None-clause-errors g c =
    let k = g.C.StripeCode.k_of c.args.code.now in
    let n = g.C.StripeCode.n_of c.args.code.now in
    let m = c.loop.counter in
    inr (
      refl,
      λ s.
          let low : m < k = omega arith in
          let next = next_left k n c.args.len m c.args.pieces.now c.loop.rest.now c.loop.places.items c.loop.readers.items c.loop.invariant (omega (arith, c.n.ensures.few, c.n.ensures.n)) s low in
          c.in-None.ensures.none (search rules) _ (s.each m low).0 _ _ (s.each m low).1 next,
    )

pub returns-clause-opened : goal.returns-clause-opened
returns-clause-opened g c =
    let k = g.C.StripeCode.k_of c.args.code.now in
    let n = g.C.StripeCode.n_of c.args.code.now in
    let end : c.loop.counter ≡ k = omega arith in
    (c.loop.rest.now, subst (λ m. HaveOpened k n c.args.len m c.args.pieces.now c.loop.rest.now c.loop.places.items c.loop.readers.items) end c.loop.invariant)
