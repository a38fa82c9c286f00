use Rattle.std.proofs.Common.{◌≡◌, ◌<◌, ℕ, length}
use Rattle.ark_math.specs.Univariate.{of_list}
use Rattle.ark_math_polynomials.proofs.Polynomials.UnivariateValues.{value_from}
use Rattle.ark_subproducts.proofs.few.write_values_of.Given as goal

abbrev pub invariant-loop-i : goal.invariant-loop-i
invariant-loop-i g l =
    let K = g.F.Field.field in
    record {
      len : length l.values ≡ length l.points;
      done : (k : ℕ) → k < length l.points → of_list K l.values k ≡ value_from K l.coeffs (of_list K l.points k) l.i;
    }
