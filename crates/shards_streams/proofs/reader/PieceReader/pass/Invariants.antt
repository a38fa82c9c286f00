use Rattle.std.proofs.Common.{◌≡◌, ◌-◌, ◌≤◌, List, ℕ, length}
use Rattle.shards_streams.specs.Readers.{Gave}
use Rattle.shards_streams.proofs.reader.PieceReader.pass.Given as goal

abbrev pub invariant-loop-left : goal.invariant-loop-left
invariant-loop-left g l = record {
  bound : l.left ≤ l.size;
  bytes : List ℕ;
  len : length bytes ≡ l.size - l.left;
  gave : Gave g.R.Source l.fn.self l.self bytes;
}

abbrev pub decreases-loop-left : goal.decreases-loop-left
decreases-loop-left g l = l.left
