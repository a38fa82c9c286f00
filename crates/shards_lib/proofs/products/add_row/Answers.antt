use Rattle.std.proofs.Common.{◌≡◌, ℕ, ◌<◌, get_or, arith}
use Rattle.shards_lib.proofs.NumberSums.{added, subtracted}
use Rattle.shards_lib.proofs.products.add_row.Goals as goal

pub returns-then-weight-eq65536-clause-sums : goal.returns-then-weight-eq65536-clause-sums
returns-then-weight-eq65536-clause-sums g c = λ s l.
    let L = g.met.F.NumberField in
    subtracted g.F.Field.field g.met.F.Field.field_laws g.F.NumberField.number L.number_fits L.number_natural L.natural_number
    (get_or c.subtract_row.new.sums s 0) (get_or c.args.sums.now s 0) c.args.weight (get_or c.args.row.now s 0)
    (omega (arith, c.if-weight-eq65536.true)) (c.subtract_row.ensures.sums s l)

pub returns-else-weight-eq65536-clause-sums : goal.returns-else-weight-eq65536-clause-sums
returns-else-weight-eq65536-clause-sums g c = λ s l.
    let L = g.met.F.NumberField in
    added g.F.Field.field g.met.F.Field.field_laws g.F.NumberField.number L.number_fits L.number_natural L.natural_number
    (get_or c.add_products.new.sums s 0) (get_or c.args.sums.now s 0) c.args.weight (get_or c.args.row.now s 0)
    (omega (arith, c.if-weight-eq65536.false, c.requires.weight)) (c.requires.row s) (c.add_products.ensures.sums s l)
