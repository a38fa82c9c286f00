use Rattle.ark_math.specs.Univariate.{of_list}
use Rattle.ark_math_points.specs.AtPoints.{x_of, y_of}
use Rattle.ark_math_points.proofs.AtPoints.Newton.{Reached}
use Rattle.ark_points.proofs.interpolation.through_different.Given as goal

abbrev pub invariant-loop-i : goal.invariant-loop-i
invariant-loop-i g l =
    let K = g.F.Field.field in
    Reached K (x_of K l.points) (y_of K l.points) l.i (of_list K l.polynomial) (of_list K l.nodes)
