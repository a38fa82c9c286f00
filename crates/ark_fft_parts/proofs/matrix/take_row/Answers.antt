use Rattle.std.proofs.Common.{◌≡◌, ◌+◌, ◌-◌, ◌*◌, arith}
use Rattle.ark_math.proofs.Outcomes.Results.{IfOk_more}
use Rattle.ark_fft_parts.proofs.Matrices.{row_taken}
use Rattle.ark_fft_parts.proofs.matrix.take_row.Goals as goal

pub returns : goal.returns
returns g c =
    let from = c.args.a * c.args.columns in
    let whole : from + c.args.columns - from ≡ c.args.columns = omega arith in
    IfOk_more c.first_items.result
    (λ v is. row_taken g.T.DomainCoeff.group g.T.DomainCoeff.meaning c.args.block.now v.items c.args.a c.args.columns (from + c.args.columns - from) c.requires whole is)
    c.first_items.ensures
