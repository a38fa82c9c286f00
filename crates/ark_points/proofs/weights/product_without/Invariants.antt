use Rattle.std.proofs.Common.{◌≡◌}
use Rattle.ark_math.specs.Univariate.{of_list}
use Rattle.ark_math_points.specs.AtPoints.{differences}
use Rattle.ark_points.proofs.weights.product_without.Given as goal

abbrev pub invariant-loop-j : goal.invariant-loop-j
invariant-loop-j g l =
    let K = g.F.Field.field in
    l.product ≡ differences K (of_list K l.points) l.place l.j l.at
