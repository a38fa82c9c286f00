use Rattle.std.proofs.Common.{arith}
use Rattle.shards_buffers.specs.declared.error.BufferError.TheVariants.{Length}
use Rattle.ark_c.proofs.OfPieces.{exactly, on_done, on_error, plain_number, same_condition}
use Rattle.ark_c.proofs.pieces.ark_split.Goals as goal

pub returns : goal.returns
returns c =
    let r = c.split_by.result in
    let status = c.piece_status.ensures in
    let e = c.split_by.ensures in
    record {
      pieces = on_done r status e.pieces;
      kept = on_error r status e.kept;
      taken = on_done r status e.taken;
      length = exactly Length r status (same_condition (λ f. (omega arith, f.fit.some, f.fit.fits, f.fit.few)) e.length);
      no_other = plain_number r status e.errors;
    }
