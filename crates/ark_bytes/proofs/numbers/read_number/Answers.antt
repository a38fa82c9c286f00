use Rattle.std.proofs.Common.{◌∙◌}
use Rattle.std.proofs.lemmas.List.{length-take-le, take_at}
use Rattle.std.proofs.lemmas.Result.{err_from_is_err_and}
use Rattle.ark_bytes.proofs.Reading.{read_bytes, refused_number}
use Rattle.ark_bytes.proofs.numbers.read_number.Goals as goal

pub returns-in_err-take_all : goal.returns-in_err-take_all
returns-in_err-take_all g c =
    let p = err_from_is_err_and c.from_residual.result c.from_residual.ensures.1 in
    rw (p.1, p.2) (refused_number _ _ c.args.width c.take_all.new.buffer _ (c.take_all.auto.buffer ∙ length-take-le c.args.width _ c.requires) c.in_err-take_all.ensures)

pub returns : goal.returns
returns g c =
    let size = c.take_all.auto.buffer ∙ length-take-le c.args.width _ c.requires in
    read_bytes _ _ c.args.width c.number_of.result c.take_all.new.buffer _ (take_at c.take_all.new.buffer _ c.args.width size) size c.number_of.ensures.spelled c.number_of.ensures.below c.in_ok-take_all.ensures
