use Rattle.std.proofs.Common.{◌≡◌, ◌-◌, ◌<◌, ◌≤◌, ℕ, length}
use Rattle.ark_math.specs.Field.{power}
use Rattle.ark_math.specs.Univariate.{of_list}
use Rattle.ark_subproducts.specs.Steps.{power_sum}
use Rattle.ark_subproducts.proofs.few.power_sums.Given as goal

abbrev pub invariant-loop-place : goal.invariant-loop-place
invariant-loop-place g l =
    let K = g.F.Field.field in
    let n = length l.points in
    let w = of_list K l.weights in
    record {
      len : length l.sums.items ≡ n;
      count : length l.terms.items ≡ n;
      terms : (i : ℕ) → i < n → of_list K l.terms.items i ≡ K.times (w i) (power K (of_list K l.points i) (n - l.place));
      done : (k : ℕ) → l.place ≤ k → k < n → of_list K l.sums.items k ≡ power_sum K l.points w (n - 1 - k);
    }
