use Rattle.std.proofs.Common.{◌≡◌, ℕ, ◌<◌, ◌≤◌, ◌+◌, ◌*◌, get_or, length}
use Rattle.shards_streams.specs.declared.reader.PieceReader.{PieceReader}
use Rattle.shards_streams.specs.Joining.{GavePart}
use Rattle.shards_streams.proofs.joining.take_rows.Given as goal

abbrev pub invariant-loop-a : goal.invariant-loop-a
invariant-loop-a g l = record {
  len : length l.numbers ≡ length l.fn.numbers;
  small : (j s : ℕ) → j < l.a → s < l.count → get_or l.numbers (j * l.count + s) 0 ≤ 65536;
  kept : length l.readers ≡ length l.fn.readers;
  done : (j : ℕ) (d : PieceReader g.row.R.Denot) → j < l.a → GavePart g.R.Source (length l.places) (get_or l.places j 0) l.count l.numbers j (get_or l.fn.readers j d) (get_or l.readers j d);
  rest : (j : ℕ) (d : PieceReader g.row.R.Denot) → l.a ≤ j → get_or l.readers j d ≡ get_or l.fn.readers j d;
}
