use Rattle.std.proofs.Common.{◌≡◌}
use Rattle.ark_math.specs.Module.{itself, item, tabulate}
use Rattle.ark_math_variables.specs.Multilinear.{place}
use Rattle.ark_poly.proofs.laws.multivariate.exchanged_point.Given as goal

abbrev pub invariant-loop-variable : goal.invariant-loop-variable
invariant-loop-variable g l = l.turned.items ≡ tabulate l.variable (λ i. item (itself g.F.Field.field) l.point (place l.by.first l.by.second l.by.count i))
