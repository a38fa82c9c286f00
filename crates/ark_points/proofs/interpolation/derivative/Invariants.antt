use Rattle.std.proofs.Common.{◌≡◌, ◌+◌, ◌<◌, ◌≤◌, ℕ, length}
use Rattle.ark_math.specs.Field.{natural}
use Rattle.ark_math.specs.Univariate.{of_list}
use Rattle.ark_subproducts.specs.Tree.{derived}
use Rattle.ark_points.proofs.interpolation.derivative.Given as goal

abbrev pub invariant-loop-i : goal.invariant-loop-i
invariant-loop-i g l =
    let K = g.F.Field.field in
    record {
      len : length l.lowered.items + 1 ≡ l.i;
      short : length l.lowered.items ≤ length l.coeffs;
      exponent_is : l.exponent ≡ natural K (length l.lowered.items);
      done : (k : ℕ) → k + 1 < l.i → of_list K l.lowered.items k ≡ derived K (of_list K l.coeffs) k;
    }
