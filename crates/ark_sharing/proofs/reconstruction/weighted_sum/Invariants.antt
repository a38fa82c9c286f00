use Rattle.std.proofs.Common.{◌≡◌}
use Rattle.ark_math.specs.Module.{itself, sum_below}
use Rattle.ark_math.specs.Univariate.{of_list}
use Rattle.ark_math_points.specs.AtPoints.{y_of}
use Rattle.ark_sharing.proofs.reconstruction.weighted_sum.Given as goal

abbrev pub invariant-loop-i : goal.invariant-loop-i
invariant-loop-i g l =
    let K = g.F.Field.field in
    l.sum ≡ sum_below (itself K) l.i (λ k. K.times (of_list K l.weights k) (y_of K l.shares k))
