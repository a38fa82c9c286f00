use Rattle.std.proofs.Common.{◌≡◌, map}
use Rattle.ark_math.specs.Module.{tabulate}
use Rattle.ark_math.specs.Univariate.{of_list}
use Rattle.ark_quotients.proofs.lanes.side_by_side.Given as goal

abbrev pub invariant-loop-i : goal.invariant-loop-i
invariant-loop-i g l =
    let K = g.F.Field.field in
    map {B = g.row.F.Denot × g.row.F.Denot} (λ v. (v.first, v.second)) l.lanes.items ≡ tabulate l.i (λ i. (of_list K l.first i, of_list K l.second i))
