use Rattle.std.proofs.Common.{◌≡◌}
use Rattle.ark_math.specs.Univariate.{of_list, product}
use Rattle.ark_math_polynomials.proofs.Polynomials.UnivariateLoops.{cut, rows}
use Rattle.ark_coeffs.proofs.dense.add_product.Given as goal

abbrev pub invariant-loop-i : goal.invariant-loop-i
invariant-loop-i g l =
    let K = g.F.Field.field in
    of_list K l.coeffs ≡ product K (cut K l.i (of_list K l.left)) (of_list K l.right)

abbrev pub invariant-loop-j : goal.invariant-loop-j
invariant-loop-j g l =
    let K = g.F.Field.field in
    of_list K l.coeffs ≡ rows K (of_list K l.left) (of_list K l.right) l.i l.j
