use Rattle.std.proofs.Common.{arith}
use Rattle.std.proofs.lemmas.Result.{err_from_is_err_and}
use Rattle.ark_bytes.proofs.Reading.{refused_length, refused_item}
use Rattle.ark_bytes.proofs.lists.read_list.Goals as goal

pub returns-in_err-count : goal.returns-in_err-count
returns-in_err-count g c =
    let p = err_from_is_err_and c.from_residual.result c.from_residual.ensures.1 in
    rw (p.1, p.2) (refused_length (g.T.Spelled.format c.args.mode) (g.T.Spelled.format_law c.args.mode) _ _ _ _ c.in_err-count.ensures)

pub returns-in_err-deserialize_with_mode : goal.returns-in_err-deserialize_with_mode
returns-in_err-deserialize_with_mode g c =
    let p = err_from_is_err_and c.from_residual-in_err-deserialize_with_mode.result c.from_residual-in_err-deserialize_with_mode.ensures.1 in
    rw (p.1, p.2) (refused_item (g.T.Spelled.format c.args.mode) (g.T.Spelled.format_law c.args.mode) _ _ _ _ _ _ _ (omega (arith, c.loop-left.invariant.sum)) c.loop-left.invariant.takes c.in_err-deserialize_with_mode.ensures)
