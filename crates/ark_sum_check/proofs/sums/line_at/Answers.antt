use Rattle.std.proofs.Common.{◌≡◌, ◌+◌, ◌*◌, ap₂, ◌∙◌, arith}
use Rattle.std.proofs.lemmas.List.{get_or_read}
use Rattle.ark_math.specs.Field.{minus}
use Rattle.ark_math.specs.Univariate.{of_list}
use Rattle.ark_sum_check.proofs.sums.line_at.Goals as goal

pub returns-clause-low : goal.returns-clause-low
returns-clause-low g c =
    let K = g.F.Field.field in
    let t = c.args.table.now in
    let i = 2 * c.args.corner in
    get_or_read t i c.index-table-corner.result (omega arith) c.index-table-corner.is K.zero

pub returns-clause-step : goal.returns-clause-step
returns-clause-step g c =
    let K = g.F.Field.field in
    let t = c.args.table.now in
    let i = 2 * c.args.corner in
    let low : c.index-table-corner.result ≡ of_list K t i = get_or_read t i c.index-table-corner.result (omega arith) c.index-table-corner.is K.zero in
    let high : c.index-table-corner-2.result ≡ of_list K t (i + 1) = get_or_read t (i + 1) c.index-table-corner-2.result (omega arith) c.index-table-corner-2.is K.zero in
    g.met.F.Field.sub_law _ _ _ c.sub.ensures ∙ ap₂ (minus K) high low
