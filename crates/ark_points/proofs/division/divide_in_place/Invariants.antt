use Rattle.std.proofs.Common.{◌≡◌, ◌+◌, ◌<◌, ◌≤◌, ℕ, length}
use Rattle.ark_math_polynomials.proofs.Polynomials.UnivariateValues.{value_from}
use Rattle.ark_math.specs.Univariate.{of_list}
use Rattle.ark_points.proofs.division.divide_in_place.Given as goal

abbrev pub invariant-loop-i : goal.invariant-loop-i
invariant-loop-i g l =
    let K = g.F.Field.field in
    record {
      len : length l.coeffs ≡ length l.initial.coeffs;
      value_is : l.value ≡ value_from K l.initial.coeffs l.point l.i;
      done : (k : ℕ) → l.i ≤ k → of_list K l.coeffs k ≡ value_from K l.initial.coeffs l.point (k + 1);
      rest : (k : ℕ) → k < l.i → of_list K l.coeffs k ≡ of_list K l.initial.coeffs k;
    }
