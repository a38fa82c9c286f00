use Rattle.std.proofs.Common.{◌≡◌, drop}
use Rattle.ark_math.specs.Univariate.{of_list}
use Rattle.ark_sum_check.specs.Cube.{picked_product}
use Rattle.ark_sum_check.proofs.addend.scaled_product.Given as goal

abbrev pub invariant-loop-index : goal.invariant-loop-index
invariant-loop-index g l =
    let K = g.F.Field.field in
    let v = of_list K l.values in
    K.times l.product (picked_product K (drop l.index-index l.indices) v) ≡ K.times l.fn.coefficient (picked_product K l.indices v)
