use Rattle.std.proofs.Common.{◌≡◌, length, take, flat_map}
use Rattle.shards_buffers.specs.Runs.{contents_of}
use Rattle.shards_buffers.proofs.splitting.copy_pieces.Given as goal

abbrev pub invariant-loop-writer : goal.invariant-loop-writer
invariant-loop-writer l = record {
  len : length l.pieces ≡ length l.fn.pieces;
  end_is : l.end ≡ length (flat_map contents_of (take l.writer-index l.writers));
  front : take l.end l.pieces ≡ flat_map contents_of (take l.writer-index l.writers);
}
