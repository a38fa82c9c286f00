use Rattle.std.proofs.Common.{◌≡◌, ◌+◌, ◌<◌, ◌≤◌, ℕ, length}
use Rattle.ark_math_polynomials.specs.Linear.{linear_factor}
use Rattle.ark_math.specs.Univariate.{of_list, product}
use Rattle.ark_bit_reversed.proofs.roots.multiply_by_linear.Given as goal

abbrev pub invariant-loop-i : goal.invariant-loop-i
invariant-loop-i g l =
    let K = g.F.Field.field in
    let a = of_list K l.fn.coeffs.items in
    record {
      len : length l.coeffs.items ≡ length l.fn.coeffs.items + 1;
      some : 0 < l.i;
      done : (k : ℕ) → l.i ≤ k → of_list K l.coeffs.items k ≡ product K a (linear_factor K l.root) k;
      rest : (k : ℕ) → k < l.i → of_list K l.coeffs.items k ≡ a k;
    }
