use Rattle.std.proofs.Common.{rules, ◌+◌, length, take, drop, arith, ap, ◌∙◌}
use Rattle.std.proofs.lemmas.List.Folds.{length-flat_map-take}
use Rattle.shards_streams.specs.declared.laws.ListSink.{ListSink}
use Rattle.shards_buffers.specs.Runs.{contents_of}
use Rattle.shards_buffers.proofs.Concats.{copied, longer}
use Rattle.shards_buffers.proofs.splitting.copy_pieces.Goals as goal

pub slice_bounds-copy_from_slice-end : goal.slice_bounds-copy_from_slice-end
slice_bounds-copy_from_slice-end c =
    let ws = c.args.writers.now in
    let loop = c.loop-writer.invariant in
    let room = length-flat_map-take contents_of ws c.loop-writer.writer-index c.writer-item.result c.loop-writer-test.true in
    let is = c.as_slice-piece.ensures.value ∙ ap (λ (sink : ListSink). sink.bytes.items) c.sink.ensures ∙ ap contents_of c.writer-item.is in
    omega (arith, room, ap length is, c.requires, loop.len, loop.end_is)

pub loop-writer-preserved : goal.loop-writer-preserved
loop-writer-preserved c =
    let ws = c.args.writers.now in
    let loop = c.loop-writer.invariant in
    let i = c.loop-writer.writer-index in
    let piece = c.as_slice-piece.result.now in
    let is = c.as_slice-piece.ensures.value ∙ ap (λ (sink : ListSink). sink.bytes.items) c.sink.ensures ∙ ap contents_of c.writer-item.is in
    let more = longer contents_of ws i c.writer-item.result c.loop-writer-test.true in
    let size = ap length is in
    record {
      len = search rules;
      end_is = omega (arith, more, size, loop.end_is);
      front = copied contents_of ws i c.writer-item.result c.loop-writer-test.true (take c.loop-writer.end c.loop-writer.pieces) c.copy_from_slice.new.self (drop _ (drop _ c.loop-writer.pieces))
          (c.loop-writer.end + length piece) loop.front (c.copy_from_slice.ensures.after ∙ is) (omega (arith, ap length loop.front, loop.end_is, ap length c.copy_from_slice.ensures.after));
    }
