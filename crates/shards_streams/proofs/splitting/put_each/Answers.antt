use Rattle.std.proofs.Common.{◌≡◌, ℕ, ◌<◌, arith, length, get_or, List, [], map, sym, ◌∙◌, subst, Vec, Global}
use Rattle.std.proofs.lemmas.List.{length-set}
use Rattle.shards_format.proofs.BlockLists.{view_at}
use Rattle.shards_streams.specs.declared.writer.PieceWriter.{PieceWriter}
use Rattle.shards_streams.specs.Writers.{Took, TookSome}
use Rattle.shards_streams.proofs.Writers.{some_of_all, some_of_none}
use Rattle.shards_streams.proofs.EachItem.{items_more, rest_after, items_all}
use Rattle.shards_streams.proofs.splitting.put_each.Goals as goal

pub loop-i-preserved : goal.loop-i-preserved
loop-i-preserved g c =
    let view : Vec ℕ Global → List ℕ = λ part. part.items in
    let part_at : ℕ → List ℕ = λ j. get_or (map view c.args.parts.now) j [] in
    let Writer : Type 0 = PieceWriter g.row.W.Denot in
    let P : ℕ → Writer → Writer → Type 0 = λ j a b. Took g.W.Sink a b (part_at j) in
    let writers = c.loop-i.writers in
    let i = c.loop-i.i in
    let inside : i < length writers = omega (arith, c.loop-i-test.true, c.loop-i.auto.writers) in
    let part_inside : i < length c.args.parts.now = omega (arith, inside, c.loop-i.invariant.len, c.requires) in
    let part_is : part_at i ≡ c.deref.result.now = view_at view c.args.parts.now i _ [] c.index-parts-i.is part_inside ∙ sym c.deref.ensures.value in
    let this : P i (get_or writers i c.index-writers-i.result) c.put.new.self = subst (λ (xs : List ℕ). Took g.W.Sink (get_or writers i c.index-writers-i.result) c.put.new.self xs) (sym part_is)
    (record { appends = c.in-Ok.ensures.ok; hashed = c.in-Ok.ensures.hashed }) in
    record {
      len = length-set writers i c.put.new.self ∙ c.loop-i.invariant.len;
      done = items_more P c.args.writers.now writers i c.index-writers-i.result c.put.new.self inside c.loop-i.invariant.done c.loop-i.invariant.rest this;
      rest = rest_after P c.args.writers.now writers i c.index-writers-i.result c.put.new.self inside c.loop-i.invariant.done c.loop-i.invariant.rest this;
    }

pub returns-in-Err-clause-some : goal.returns-in-Err-clause-some
returns-in-Err-clause-some g c =
    let view : Vec ℕ Global → List ℕ = λ part. part.items in
    let part_at : ℕ → List ℕ = λ j. get_or (map view c.args.parts.now) j [] in
    let Writer : Type 0 = PieceWriter g.row.W.Denot in
    let P : ℕ → Writer → Writer → Type 0 = λ j a b. TookSome g.W.Sink a b (part_at j) in
    let writers = c.loop-i.writers in
    let i = c.loop-i.i in
    let inside : i < length writers = omega (arith, c.loop-i-test.true, c.loop-i.auto.writers) in
    let part_inside : i < length c.args.parts.now = omega (arith, inside, c.loop-i.invariant.len, c.requires) in
    let part_is : part_at i ≡ c.deref.result.now = view_at view c.args.parts.now i _ [] c.index-parts-i.is part_inside ∙ sym c.deref.ensures.value in
    let this : P i (get_or writers i c.index-writers-i.result) c.put.new.self = subst (λ (xs : List ℕ). TookSome g.W.Sink (get_or writers i c.index-writers-i.result) c.put.new.self xs) (sym part_is) c.in-Err.ensures.failed in
    λ j d h. items_all P c.args.writers.now writers i c.index-writers-i.result c.put.new.self inside
    (λ j d l. some_of_all g.W.Sink (get_or c.args.writers.now j d) (get_or writers j d) (part_at j) (c.loop-i.invariant.done j d l)) c.loop-i.invariant.rest this
    (λ j a b same. some_of_none g.W.Sink a b (part_at j) same) j d
