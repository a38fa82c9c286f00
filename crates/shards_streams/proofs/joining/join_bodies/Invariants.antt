use Rattle.shards_streams.proofs.Joined.{JoinedBlocks}
use Rattle.shards_streams.proofs.joining.join_bodies.Given as goal

abbrev pub invariant-loop-b : goal.invariant-loop-b
invariant-loop-b g l =
    let code = g.C.StripeCode in
    JoinedBlocks g.R.Source code.number (code.k_of l.code) (code.n_of l.code) l.chosen.places.now l.chosen.trailer.now.len l.b (g.W.Sink.contents l.fn.sink) (g.W.Sink.contents l.sink) l.fn.readers l.readers
