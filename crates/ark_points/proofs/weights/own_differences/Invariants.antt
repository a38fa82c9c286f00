use Rattle.std.proofs.Common.{◌≡◌, ◌<◌, ℕ, length}
use Rattle.ark_math.specs.Univariate.{of_list}
use Rattle.ark_math_points.specs.AtPoints.{differences}
use Rattle.ark_points.proofs.weights.own_differences.Given as goal

abbrev pub invariant-loop-i : goal.invariant-loop-i
invariant-loop-i g l =
    let K = g.F.Field.field in
    record {
      len : length l.products.items ≡ l.i;
      done : (k : ℕ) → k < l.i → of_list K l.products.items k ≡ differences K (of_list K l.points) k (length l.points) (of_list K l.points k);
    }
