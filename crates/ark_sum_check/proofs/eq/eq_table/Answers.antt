use Rattle.ark_math.specs.Univariate.{of_list}
use Rattle.ark_sum_check.proofs.TwoTables.{sum_of_weights}
use Rattle.ark_sum_check.proofs.eq.eq_table.Goals as goal

pub returns-in-Ok-clause-sum : goal.returns-in-Ok-clause-sum
returns-in-Ok-clause-sum g c = λ t.
    let K = g.F.Field.field in
    sum_of_weights K g.met.F.Field.field_laws c.args.point.now (of_list K c.in-Ok.table.items) t c.in-Ok.ensures.values
