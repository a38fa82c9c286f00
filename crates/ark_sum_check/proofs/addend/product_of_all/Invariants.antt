use Rattle.std.proofs.Common.{◌≡◌}
use Rattle.ark_math.specs.Module.{tabulate}
use Rattle.ark_math.specs.Univariate.{of_list}
use Rattle.ark_sum_check.specs.Cube.{picked_product}
use Rattle.ark_sum_check.proofs.addend.product_of_all.Given as goal

abbrev pub invariant-loop-i : goal.invariant-loop-i
invariant-loop-i g l =
    let K = g.F.Field.field in
    l.product ≡ picked_product K (tabulate l.i (λ i. i)) (of_list K l.values)
