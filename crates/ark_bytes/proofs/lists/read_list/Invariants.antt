-- The length and the items so far were taken.
use Rattle.std.proofs.Common.{◌≡◌, ◌+◌, length}
use Rattle.ark_bytes.specs.Reading.{source_state}
use Rattle.ark_bytes.proofs.Reading.{TakesItems}
use Rattle.ark_bytes.proofs.lists.read_list.Given as goal

abbrev pub invariant-loop-left : goal.invariant-loop-left
invariant-loop-left g l = record {
  sum : length l.items.items + l.left ≡ l.count;
  takes : TakesItems (g.T.Spelled.format l.mode) (g.T.Spelled.format_law l.mode) (source_state g.R.Source.remaining g.R.Source.failures l.fn.reader) (source_state g.R.Source.remaining g.R.Source.failures l.reader) l.count l.items.items;
}

abbrev pub decreases-loop-left : goal.decreases-loop-left
decreases-loop-left g l = l.left
