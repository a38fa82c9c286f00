-- The length and the items so far were written.
use Rattle.std.proofs.Common.{take, length}
use Rattle.ark_bytes.specs.Writing.{sink_state}
use Rattle.ark_bytes.proofs.Writing.{PutsItems}
use Rattle.ark_bytes.proofs.lists.write_list.Given as goal

abbrev pub invariant-loop-item : goal.invariant-loop-item
invariant-loop-item g l =
    PutsItems (g.T.Spelled.format l.mode) (sink_state g.W.Sink.contents g.W.Sink.failures l.fn.writer) (sink_state g.W.Sink.contents g.W.Sink.failures l.writer) (length l.items) (take l.item-index l.items)
