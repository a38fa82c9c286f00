use Rattle.std.proofs.Common.{◌≡◌, ℕ, length}
use Rattle.ark_math.specs.Field.{natural}
use Rattle.ark_math.specs.Univariate.{of_list}
use Rattle.ark_math_polynomials.proofs.Polynomials.UnivariateLoops.{zipped}
use Rattle.ark_sum_check.specs.Cube.{combined}
use Rattle.ark_sum_check.specs.Lists.{as_sum}
use Rattle.ark_sum_check.specs.Provers.{addends_of}
use Rattle.ark_sum_check.proofs.sums.add_along.Given as goal

abbrev pub invariant-loop-i : goal.invariant-loop-i
invariant-loop-i g l =
    let K = g.F.Field.field in
    let at = λ (i k : ℕ). K.plus (of_list K l.initial.values k) (K.times (natural K i) (of_list K l.steps k)) in
    record {
      values : (k : ℕ) → of_list K l.values k ≡ at l.i k;
      sums : of_list K l.sums ≡ zipped K.plus l.i (of_list K l.initial.sums) (λ i. combined K (addends_of K (length l.initial.values) (as_sum l.addends)) (at i));
      count : length l.values ≡ length l.initial.values;
    }
