use Rattle.std.proofs.Common.{◌≡◌, ℕ, List, ◌<◌, ◌≤◌, ◌*◌, get_or, length}
use Rattle.sha2.specs.Sha256.{sha256}
use Rattle.shards_format.specs.Pieces.{chunk}
use Rattle.shards_streams.specs.declared.writer.PieceWriter.{PieceWriter}
use Rattle.shards_streams.specs.Writers.{piece_sink, HasHashed}
use Rattle.shards_streams.proofs.splitting.digests_of.Given as goal

abbrev pub invariant-loop-i : goal.invariant-loop-i
invariant-loop-i g l = record {
  len : length l.writers ≡ length l.fn.writers;
  kept : (j : ℕ) (d : PieceWriter g.row.W.Denot) → j < length l.fn.writers → piece_sink (get_or l.writers j d) ≡ piece_sink (get_or l.fn.writers j d);
  rest : (j : ℕ) (d : PieceWriter g.row.W.Denot) → l.i ≤ j → get_or l.writers j d ≡ get_or l.fn.writers j d;
  count : length l.digests.items ≡ l.i * 32;
  each : (j : ℕ) (d : PieceWriter g.row.W.Denot) (text : List ℕ) → j < l.i → HasHashed (get_or l.fn.writers j d) text → chunk 32 j l.digests.items ≡ sha256 text;
}
