use Rattle.std.proofs.Common.{◌≡◌, ℕ, ◌+◌, ◌*◌, get_or}
use Rattle.ark_math.specs.Field.{minus}
use Rattle.ark_math.specs.Univariate.{nothing, of_list}
use Rattle.ark_math_polynomials.proofs.Polynomials.UnivariateLoops.{zipped}
use Rattle.ark_sum_check.specs.Lists.{as_tables}
use Rattle.ark_sum_check.proofs.sums.take_corner.Given as goal

abbrev pub invariant-loop-i : goal.invariant-loop-i
invariant-loop-i g l =
    let K = g.F.Field.field in
    let t = λ (i b : ℕ). get_or (as_tables K l.tables) i (nothing K) b in
    let c = l.corner in
    record {
      values : of_list K l.values ≡ zipped (λ _ y. y) l.i (of_list K l.initial.values) (λ i. t i (2 * c));
      steps : of_list K l.steps ≡ zipped (λ _ y. y) l.i (of_list K l.initial.steps) (λ i. minus K (t i (2 * c + 1)) (t i (2 * c)));
    }
