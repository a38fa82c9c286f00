use Rattle.std.proofs.Common.{◌≡◌, ◌-◌, length}
use Rattle.ark_math.specs.Module.{itself, sum_below}
use Rattle.ark_math.specs.Univariate.{of_list}
use Rattle.ark_subproducts.proofs.products.coefficient_at_degree.Given as goal

abbrev pub invariant-loop-i : goal.invariant-loop-i
invariant-loop-i g l =
    let K = g.F.Field.field in
    l.sum ≡ sum_below (itself K) l.i (λ j. K.times (of_list K l.coeffs j) (of_list K l.factor (length l.factor - 1 - j)))
