use Rattle.std.proofs.Common.{◌≡◌, ◌^◌, length}
use Rattle.ark_math_variables.specs.Multilinear.{extension}
use Rattle.ark_math.specs.Univariate.{of_list}
use Rattle.ark_tables.proofs.tables.value_of_table.Given as goal

abbrev pub invariant-bind : goal.invariant-bind
invariant-bind g l =
    let K = g.F.Field.field in
    (extension K (of_list K l.left.items) l.unbound ≡ extension K (of_list K l.table) l.point) × (length l.left.items ≡ 2 ^ length l.unbound)

abbrev pub decreases-bind : goal.decreases-bind
decreases-bind g l = length l.unbound
