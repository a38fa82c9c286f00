use Rattle.std.proofs.Common.{◌≡◌, ◌*◌, sym, subst, ◌∙◌, arith}
use Rattle.ark_fft_parts.specs.Counting.{GrowsByParts}
use Rattle.ark_fft_parts.proofs.Counting.{parts_cost, cuts_add_up}
use Rattle.ark_fft_parts.proofs.Domains.{power_of_two}
use Rattle.ark_fft_parts.proofs.laws.parts_cost.Goals as goal

pub returns-clause-cuts : goal.returns-clause-cuts
returns-clause-cuts g c = λ n j k before between after x y. cuts_add_up n j k x y

pub returns-clause-passes : goal.returns-clause-passes
returns-clause-passes g c = λ before between after x y.
    let s = g.F.FftField.adicity in
    let t = c.args.parts.now in
    let rows = power_of_two s t.column.size t.column.log_size_of_group t.column.odd_exponent t.column.splits t.columns_even in
    let columns = power_of_two s t.row.size t.row.log_size_of_group t.row.odd_exponent t.row.splits t.rows_even in
    subst (λ n. GrowsByParts n before after) (sym t.size_is) (parts_cost t.column.log_size_of_group t.row.log_size_of_group t.column.size t.row.size rows columns x y)

pub returns-clause-back : goal.returns-clause-back
returns-clause-back g c = λ before between after x y.
    let s = g.F.FftField.adicity in
    let t = c.args.parts.now in
    let rows = power_of_two s t.column.size t.column.log_size_of_group t.column.odd_exponent t.column.splits t.columns_even in
    let columns = power_of_two s t.row.size t.row.log_size_of_group t.row.odd_exponent t.row.splits t.rows_even in
    let turned : t.row.size * t.column.size ≡ t.column.size * t.row.size = omega arith in
    subst (λ n. GrowsByParts n before after) (turned ∙ sym t.size_is)
    (parts_cost t.row.log_size_of_group t.column.log_size_of_group t.row.size t.column.size columns rows x y)
