use Rattle.std.proofs.Common.{◌≡◌}
use Rattle.ark_math_variables.specs.Multilinear.{corner}
use Rattle.ark_poly.proofs.laws.multivariate.corner_point.Given as goal

abbrev pub invariant-loop-variable : goal.invariant-loop-variable
invariant-loop-variable g l = l.point.items ≡ corner g.F.Field.field l.variable l.index
