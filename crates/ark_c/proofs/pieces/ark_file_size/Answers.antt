use Rattle.shards_buffers.specs.declared.error.BufferError.TheVariants.{Length, NotPieces}
use Rattle.ark_c.proofs.OfPieces.{exactly, on_done, on_error, only, undamaged_number}
use Rattle.ark_c.proofs.pieces.ark_file_size.Goals as goal

pub returns : goal.returns
returns c =
    let r = c.write_file_size.result in
    let status = c.piece_status.ensures in
    let e = c.write_file_size.ensures in
    record {
      len = on_done r status e.len;
      kept = on_error r status e.kept;
      length = exactly Length r status e.length;
      not_pieces = only NotPieces r status e.not_pieces;
      no_other = undamaged_number r status e.whole;
    }
