use Rattle.std.proofs.Common.{◌≡◌, ℕ, List, ◌<◌, ◌≤◌, get_or, length}
use Rattle.sha2.specs.Sha256.{sha256}
use Rattle.shards_format.specs.Pieces.{chunk}
use Rattle.shards_streams.specs.declared.reader.PieceReader.{PieceReader}
use Rattle.shards_streams.specs.Readers.{HasRead, piece_source}
use Rattle.shards_streams.proofs.joining.check_digests.Given as goal

abbrev pub invariant-loop-a : goal.invariant-loop-a
invariant-loop-a g l = record {
  len : length l.readers ≡ length l.fn.readers;
  kept : (j : ℕ) (d : PieceReader g.row.R.Denot) → j < length l.fn.readers → piece_source (get_or l.readers j d) ≡ piece_source (get_or l.fn.readers j d);
  done : (j : ℕ) (d : PieceReader g.row.R.Denot) (text : List ℕ) → j < l.a → HasRead (get_or l.fn.readers j d) text → chunk 32 (get_or l.chosen.places.now j 0) l.chosen.trailer.now.digests.items ≡ sha256 text;
  rest : (j : ℕ) (d : PieceReader g.row.R.Denot) → l.a ≤ j → get_or l.readers j d ≡ get_or l.fn.readers j d;
}
