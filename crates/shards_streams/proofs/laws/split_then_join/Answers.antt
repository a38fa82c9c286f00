use Rattle.std.proofs.Common.{List, sym, subst, arith}
use Rattle.shards_streams.specs.declared.writer.PieceWriter.{PieceWriter}
use Rattle.shards_streams.specs.declared.laws.ListSink.{ListSink}
use Rattle.shards_streams.specs.Laws.{HavePieces}
use Rattle.shards_streams.proofs.Results.{if_err_map, if_ok_map}
use Rattle.shards_streams.proofs.laws.split_then_join.Goals as goal

pub returns : goal.returns
returns g c =
    let made = c.in_ok-made.ensures in
    let code = g.C.StripeCode in
    let pieces = subst (λ (ws : List (PieceWriter ListSink)). HavePieces code.number (code.k_of c.args.code.now) (code.n_of c.args.code.now) c.args.label.now c.args.bytes.now c.in_ok-made.made.1.digests.items ws)
    (sym c.as_slice.ensures.value) made.pieces in
    record {
      same = if_ok_map c.join_pieces.result _ _ (λ joined same. same c.args.bytes.now (λ i. omega (arith, c.type_inv.bytes i)) (sym made.len) pieces)
          c.join_pieces.ensures.same;
      memory = if_err_map c.join_pieces.result _ _ (λ e memory. memory c.args.bytes.now (λ i. omega (arith, c.type_inv.bytes i)) (sym made.len) pieces)
          c.join_pieces.ensures.memory;
    }
