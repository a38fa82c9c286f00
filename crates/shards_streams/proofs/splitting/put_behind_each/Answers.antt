use Rattle.std.proofs.Common.{ℕ, ◌<◌, arith, length, get_or, ◌∙◌}
use Rattle.std.specs.Io.KnownBytes.{Appends}
use Rattle.std.proofs.lemmas.List.{length-set}
use Rattle.ark_bytes.specs.Transfer.{AppendsBeginning}
use Rattle.ark_bytes.proofs.Transfer.{AppendsBeginning-all}
use Rattle.shards_streams.specs.declared.writer.PieceWriter.{PieceWriter}
use Rattle.shards_streams.specs.Writers.{piece_sink}
use Rattle.shards_streams.proofs.Writers.{some_of_none}
use Rattle.shards_streams.proofs.EachItem.{items_more, rest_after, items_all}
use Rattle.shards_streams.proofs.splitting.put_behind_each.Goals as goal

pub loop-i-preserved : goal.loop-i-preserved
loop-i-preserved g c =
    let Writer : Type 0 = PieceWriter g.row.W.Denot in
    let P : ℕ → Writer → Writer → Type 0 = λ j a b. Appends (g.W.Sink.contents (piece_sink a)) (g.W.Sink.contents (piece_sink b)) c.args.end.now in
    let writers = c.loop-i.writers in
    let i = c.loop-i.i in
    let new = c.put_behind.new.self in
    let inside : i < length writers = omega (arith, c.loop-i-test.true, c.loop-i.auto.writers) in
    record {
      len = length-set writers i new ∙ c.loop-i.invariant.len;
      done = items_more P c.args.writers.now writers i c.index-writers-i.result new inside c.loop-i.invariant.done c.loop-i.invariant.rest c.in-Ok.ensures.ok;
      rest = rest_after P c.args.writers.now writers i c.index-writers-i.result new inside c.loop-i.invariant.done c.loop-i.invariant.rest c.in-Ok.ensures.ok;
    }

pub returns-in-Err-clause-some : goal.returns-in-Err-clause-some
returns-in-Err-clause-some g c =
    let Writer : Type 0 = PieceWriter g.row.W.Denot in
    let P : ℕ → Writer → Writer → Type 0 = λ j a b. AppendsBeginning (g.W.Sink.contents (piece_sink a)) (g.W.Sink.contents (piece_sink b)) c.args.end.now in
    let writers = c.loop-i.writers in
    let i = c.loop-i.i in
    let new = c.put_behind.new.self in
    let inside : i < length writers = omega (arith, c.loop-i-test.true, c.loop-i.auto.writers) in
    λ j d h. items_all P c.args.writers.now writers i c.index-writers-i.result new inside
    (λ j d l. AppendsBeginning-all (g.W.Sink.contents (piece_sink (get_or c.args.writers.now j d))) (g.W.Sink.contents (piece_sink (get_or writers j d))) c.args.end.now (c.loop-i.invariant.done j d l))
    c.loop-i.invariant.rest c.in-Err.ensures.failed (λ j a b same. some_of_none g.W.Sink a b c.args.end.now same) j d
