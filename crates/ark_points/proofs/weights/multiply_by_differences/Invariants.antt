use Rattle.std.proofs.Common.{◌≡◌, ◌<◌, ◌≤◌, ℕ, length}
use Rattle.ark_math.specs.Univariate.{of_list}
use Rattle.ark_math_points.specs.AtPoints.{differences}
use Rattle.ark_points.proofs.weights.multiply_by_differences.Given as goal

abbrev pub invariant-loop-i : goal.invariant-loop-i
invariant-loop-i g l =
    let K = g.F.Field.field in
    record {
      len : length l.items ≡ length l.initial.items;
      done : (k : ℕ) → k < l.i → of_list K l.items k ≡ K.times (of_list K l.initial.items k) (differences K (of_list K l.points) k (length l.points) l.tau);
      rest : (k : ℕ) → l.i ≤ k → of_list K l.items k ≡ of_list K l.initial.items k;
    }
