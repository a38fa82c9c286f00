use Rattle.std.proofs.Common.{arith, ◌∙◌, ap}
use Rattle.ark_rows.specs.Row.{lanes}
use Rattle.shards_lib.proofs.Windows.{item_written}
use Rattle.shards_lib.proofs.rows.put_row.Goals as goal

pub loop-t-preserved : goal.loop-t-preserved
loop-t-preserved g c =
    let K = g.F.Field.field in
    let number = g.F.NumberField.number in
    item_written (λ t. number (lanes K c.args.row.now t)) c.loop-t.numbers c.loop-t.t c.to_number.result
    (omega (arith, c.loop-t-test.true, c.loop-t.auto.numbers)) c.loop-t.invariant (c.to_number.ensures ∙ ap number (c.get.ensures K.zero))
