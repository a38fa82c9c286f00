use Rattle.std.proofs.Common.{◌<◌, arith, inl, inr}
use Rattle.shards_buffers.specs.declared.error.BufferError.TheVariants.{Length, Damaged}
use Rattle.ark_c.proofs.OfPieces.{any_number, but_length, no_pieces, on_done, on_error, only, taken_number}
use Rattle.ark_c.proofs.pieces.ark_join.Goals as goal

pub returns : goal.returns
returns c =
    let r = c.join_by.result in
    let status = c.piece_status.ensures in
    let e = c.join_by.ensures in
    let lanes : 0 < 16 = omega arith in
    record {
      file = on_done r status e.file;
      trusted = on_done r status e.trusted;
      kept = on_error r status e.kept;
      code = but_length r status (λ fits. let has = e.code fits in (has.1, has.2, has.3));
      refused = λ label bytes code size pieces. taken_number _ _ _ r status e.refused label bytes (lanes, code.0, code.1, code.2) size pieces;
      length = only Length r status (λ is. elim (e.length is) [
        | inl none ↦ inl (λ code. none (lanes, code.0, code.1, code.2))
        | inr other ↦ inr other
      ]);
      not_pieces = no_pieces _ _ _ r status e.refused e.code;
      damaged = only Damaged r status e.damaged;
      no_other = any_number r status;
    }
