use Rattle.std.proofs.Common.{◌≡◌, ℕ, ◌+◌, ◌<◌, length}
use Rattle.ark_math.specs.Field.{natural}
use Rattle.ark_math.specs.Module.{itself, sum_below}
use Rattle.ark_math.specs.Univariate.{of_list}
use Rattle.ark_sum_check.specs.Cube.{bound_to, sum_at}
use Rattle.ark_sum_check.proofs.Factors.{summed}
use Rattle.ark_sum_check.proofs.sums.round_of_sum.Given as goal

abbrev pub invariant-loop-corner : goal.invariant-loop-corner
invariant-loop-corner g l =
    let K = g.F.Field.field in
    record {
      values : length l.values.items ≡ length l.tables;
      steps : length l.steps.items ≡ length l.tables;
      count : length l.sums.items ≡ l.degree + 1;
      sums : (i : ℕ) → i < l.degree + 1 → of_list K l.sums.items i ≡ sum_below (itself K) l.corner (sum_at K (bound_to K (natural K i) (summed K l.tables l.addends)));
    }
