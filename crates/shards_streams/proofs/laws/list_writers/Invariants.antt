use Rattle.std.proofs.Common.{◌≡◌, ℕ, ◌<◌, [], get_or, length}
use Rattle.shards_streams.specs.declared.writer.PieceWriter.{PieceWriter}
use Rattle.shards_streams.specs.Writers.{piece_sink, HasHashed}
use Rattle.shards_streams.proofs.laws.list_writers.Given as goal

abbrev pub invariant-loop : goal.invariant-loop
invariant-loop l = record {
  len : length l.writers.items ≡ l.counter;
  new : (i : ℕ) (d : PieceWriter _) → i < length l.writers.items → HasHashed (get_or l.writers.items i d) [];
  empty : (i : ℕ) (d : PieceWriter _) → i < length l.writers.items → (piece_sink (get_or l.writers.items i d)).bytes.items ≡ [];
}
