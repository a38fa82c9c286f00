use Rattle.std.proofs.Common.{◌≡◌, ◌<◌, length}
use Rattle.ark_math.specs.Univariate.{IsSparse, of_pairs}
use Rattle.ark_math_variables.specs.Multilinear.{fixed}
use Rattle.ark_tables.proofs.windows.bind_variables.Given as goal

abbrev pub invariant-bind : goal.invariant-bind
invariant-bind g l =
    let K = g.F.Field.field in
    IsSparse K l.bound.items × (length l.left < 64)
    × (fixed K (of_pairs K l.bound.items) l.left ≡ fixed K (of_pairs K l.entries) l.point)

abbrev pub decreases-bind : goal.decreases-bind
decreases-bind g l = length l.left
