use Rattle.std.proofs.Common.{rules, List, length, flat_map, sym, ◌∙◌, ap}
use Rattle.shards_streams.specs.declared.writer.PieceWriter.{PieceWriter}
use Rattle.shards_streams.specs.declared.laws.ListSink.{ListSink}
use Rattle.shards_buffers.specs.Runs.{contents_of}
use Rattle.shards_buffers.proofs.AllPieces.{all_pieces, total}
use Rattle.shards_buffers.proofs.splitting.split.Goals as goal

pub copy_pieces-requires : goal.copy_pieces-requires
copy_pieces-requires g c =
    let code = g.C.StripeCode in
    let made = c.in-Ok.ensures in
    let room = c.is_room.ensures.0 (search rules) in
    room.size_is ∙ sym (total code.number (code.k_of c.args.code.now) (code.n_of c.args.code.now) c.args.label.now c.args.bytes.now c.in-Ok.made.1.digests.items c.in-Ok.made.0.items
    room.fit.some room.fit.fits made.count made.digests made.pieces)
    ∙ ap (λ (ws : List (PieceWriter ListSink)). length (flat_map contents_of ws)) (sym c.deref.ensures.value)

pub returns-in-Ok-clause-pieces : goal.returns-in-Ok-clause-pieces
returns-in-Ok-clause-pieces g c =
    let code = g.C.StripeCode in
    let made = c.in-Ok.ensures in
    let room = c.is_room.ensures.0 (search rules) in
    all_pieces code.number (code.k_of c.args.code.now) (code.n_of c.args.code.now) c.args.label.now c.args.bytes.now c.in-Ok.made.1.digests.items c.in-Ok.made.0.items
    room.fit.some room.fit.fits made.count made.digests made.pieces c.copy_pieces.new.pieces
    (c.copy_pieces.ensures ∙ ap (λ (ws : List (PieceWriter ListSink)). flat_map contents_of ws) c.deref.ensures.value)
