use Rattle.ark_math.specs.Univariate.{of_list}
use Rattle.ark_math_points.specs.AtPoints.{AreDifferent}
use Rattle.ark_points.proofs.repeated.has_repeated.Given as goal

abbrev pub invariant-loop-i : goal.invariant-loop-i
invariant-loop-i g l = AreDifferent l.i (of_list g.F.Field.field l.points)
