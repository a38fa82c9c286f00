use Rattle.std.proofs.Common.{◌≡◌, drop}
use Rattle.ark_math.specs.Univariate.{of_list}
use Rattle.ark_sum_check.specs.Cube.{combined}
use Rattle.ark_sum_check.specs.Lists.{as_products}
use Rattle.ark_sum_check.proofs.addend.sum_of_addends.Given as goal

abbrev pub invariant-loop-addend : goal.invariant-loop-addend
invariant-loop-addend g l =
    let K = g.F.Field.field in
    K.plus l.sum (combined K (as_products (drop l.addend-index l.addends)) (of_list K l.values)) ≡ combined K (as_products l.addends) (of_list K l.values)
