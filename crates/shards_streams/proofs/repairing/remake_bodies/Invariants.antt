use Rattle.std.proofs.Common.{◌≡◌, length}
use Rattle.shards_streams.proofs.Remade.{RemadeBlocks}
use Rattle.shards_streams.proofs.repairing.remake_bodies.Given as goal

abbrev pub invariant-loop-b : goal.invariant-loop-b
invariant-loop-b g l =
    let code = g.C.StripeCode in
    record {
      len : length l.writers ≡ length l.fn.writers;
      blocks : RemadeBlocks g.R.Source g.W.Sink code.number (code.k_of l.code) (code.n_of l.code) l.lost.chosen.places.now l.lost.places.now l.lost.chosen.trailer.now.len l.b
          l.fn.readers l.readers l.fn.writers l.writers;
    }
