use Rattle.shards_buffers.specs.Opened.{HaveOpened}
use Rattle.shards_buffers.proofs.opening.open_each.Given as goal

abbrev pub invariant-loop : goal.invariant-loop
invariant-loop g l =
    HaveOpened (g.C.StripeCode.k_of l.code) (g.C.StripeCode.n_of l.code) l.len l.counter l.pieces l.rest l.places.items l.readers.items
