use Rattle.std.proofs.Common.{◌≡◌, ◌+◌, ◌*◌, [], ◌∷◌}
use Rattle.ark_math.specs.Field.{natural}
use Rattle.ark_math.specs.Module.{itself, sum_below}
use Rattle.ark_math.specs.Univariate.{of_list}
use Rattle.ark_sum_check.specs.Cube.{bound_to, product_of, sum_at}
use Rattle.ark_sum_check.proofs.pairs.sums_of_two.Given as goal

abbrev pub invariant-loop-corner : goal.invariant-loop-corner
invariant-loop-corner g l =
    let K = g.F.Field.field in
    let ts = product_of K (of_list K l.left ∷ of_list K l.right ∷ []) in
    record {
      zero : l.zero ≡ sum_below (itself K) l.corner (λ c. sum_at K ts (2 * c + 0));
      one : l.one ≡ sum_below (itself K) l.corner (λ c. sum_at K ts (2 * c + 1));
      two : l.two ≡ sum_below (itself K) l.corner (sum_at K (bound_to K (natural K 2) ts));
    }
