use Rattle.std.proofs.Common.{◌≡◌, ℕ, ◌<◌, ◌≤◌, get_or, map, [], length}
use Rattle.shards_streams.specs.declared.writer.PieceWriter.{PieceWriter}
use Rattle.shards_streams.specs.Writers.{Took}
use Rattle.shards_streams.proofs.splitting.put_each.Given as goal

abbrev pub invariant-loop-i : goal.invariant-loop-i
invariant-loop-i g l = record {
  len : length l.writers ≡ length l.fn.writers;
  done : (j : ℕ) (d : PieceWriter g.row.W.Denot) → j < l.i → Took g.W.Sink (get_or l.fn.writers j d) (get_or l.writers j d) (get_or (map (λ part. part.items) l.parts) j []);
  rest : (j : ℕ) (d : PieceWriter g.row.W.Denot) → l.i ≤ j → get_or l.writers j d ≡ get_or l.fn.writers j d;
}
