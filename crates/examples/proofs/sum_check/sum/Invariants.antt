use Rattle.std.proofs.Common.{◌≡◌}
use Rattle.ark_math.specs.Module.{itself, sum_below}
use Rattle.ark_math.specs.Univariate.{of_list}
use Rattle.examples.proofs.sum_check.sum.Given as goal

abbrev pub invariant-loop-value : goal.invariant-loop-value
invariant-loop-value g l =
    let K = g.F.Field.field in
    l.sum ≡ sum_below (itself K) l.value-index (of_list K l.values)
