use Rattle.std.proofs.Common.{◌≡◌, ℕ, ◌<◌, get_or, length}
use Rattle.shards_streams.specs.declared.writer.PieceWriter.{PieceWriter}
use Rattle.shards_streams.specs.declared.reader.PieceReader.{PieceReader}
use Rattle.shards_streams.specs.Writers.{piece_sink}
use Rattle.shards_streams.specs.Readers.{piece_source}
use Rattle.shards_streams.specs.Laws.{HasPassed}
use Rattle.shards_streams.proofs.laws.readers_of.Given as goal

abbrev pub invariant-loop-place : goal.invariant-loop-place
invariant-loop-place l = record {
  len : length l.readers.items ≡ l.place-index;
  each : (a : ℕ) (w : PieceWriter _) (d : PieceReader _) → a < l.place-index
      → HasPassed (piece_sink (get_or l.writers (get_or l.chosen a 0) w)).bytes.items l.size
      (get_or l.readers.items a d) (piece_source (get_or l.readers.items a d)).now;
}
