use Rattle.std.proofs.Common.{◌≡◌, ℕ, List, ◌<◌, ◌≤◌, get_or, length}
use Rattle.sha2.specs.Sha256.{sha256}
use Rattle.shards_format.specs.Pieces.{chunk}
use Rattle.shards_streams.specs.declared.writer.PieceWriter.{PieceWriter}
use Rattle.shards_streams.specs.Writers.{piece_sink, HasHashed}
use Rattle.shards_streams.proofs.repairing.check_made.Given as goal

abbrev pub invariant-loop-b : goal.invariant-loop-b
invariant-loop-b g l = record {
  len : length l.writers ≡ length l.fn.writers;
  kept : (j : ℕ) (d : PieceWriter g.row.W.Denot) → j < length l.fn.writers → piece_sink (get_or l.writers j d) ≡ piece_sink (get_or l.fn.writers j d);
  done : (j : ℕ) (d : PieceWriter g.row.W.Denot) (text : List ℕ) → j < l.b → HasHashed (get_or l.fn.writers j d) text
      → chunk 32 (get_or l.lost.places.now j 0) l.lost.chosen.trailer.now.digests.items ≡ sha256 text;
  rest : (j : ℕ) (d : PieceWriter g.row.W.Denot) → l.b ≤ j → get_or l.writers j d ≡ get_or l.fn.writers j d;
}
