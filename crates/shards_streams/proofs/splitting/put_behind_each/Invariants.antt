use Rattle.std.proofs.Common.{◌≡◌, ℕ, ◌<◌, ◌≤◌, get_or, length}
use Rattle.std.specs.Io.KnownBytes.{Appends}
use Rattle.shards_streams.specs.declared.writer.PieceWriter.{PieceWriter}
use Rattle.shards_streams.specs.Writers.{piece_sink}
use Rattle.shards_streams.proofs.splitting.put_behind_each.Given as goal

abbrev pub invariant-loop-i : goal.invariant-loop-i
invariant-loop-i g l = record {
  len : length l.writers ≡ length l.fn.writers;
  done : (j : ℕ) (d : PieceWriter g.row.W.Denot) → j < l.i
      → Appends (g.W.Sink.contents (piece_sink (get_or l.fn.writers j d))) (g.W.Sink.contents (piece_sink (get_or l.writers j d))) l.end;
  rest : (j : ℕ) (d : PieceWriter g.row.W.Denot) → l.i ≤ j → get_or l.writers j d ≡ get_or l.fn.writers j d;
}
