use Rattle.std.proofs.Common.{◌≡◌, ◌<◌, ◌≤◌, ℕ, length}
use Rattle.ark_math.specs.Univariate.{of_list}
use Rattle.ark_subproducts.proofs.few.multiply_and_add.Given as goal

abbrev pub invariant-loop-i : goal.invariant-loop-i
invariant-loop-i g l =
    let K = g.F.Field.field in
    record {
      len : length l.values ≡ length l.initial.values;
      done : (k : ℕ) → k < l.i → of_list K l.values k ≡ K.plus (K.times (of_list K l.initial.values k) (of_list K l.points k)) l.coefficient;
      rest : (k : ℕ) → l.i ≤ k → of_list K l.values k ≡ of_list K l.initial.values k;
    }
