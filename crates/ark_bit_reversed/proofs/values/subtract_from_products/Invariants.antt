use Rattle.std.proofs.Common.{◌≡◌, ◌<◌, ◌≤◌, ℕ, length}
use Rattle.ark_math.specs.Field.{minus}
use Rattle.ark_math.specs.Univariate.{of_list}
use Rattle.ark_bit_reversed.proofs.values.subtract_from_products.Given as goal

abbrev pub invariant-loop-i : goal.invariant-loop-i
invariant-loop-i g l =
    let K = g.F.Field.field in
    record {
      len : length l.items ≡ length l.initial.items;
      done : (k : ℕ) → k < l.i → of_list K l.items k ≡ minus K (K.times (of_list K l.left k) (of_list K l.right k)) (of_list K l.initial.items k);
      rest : (k : ℕ) → l.i ≤ k → of_list K l.items k ≡ of_list K l.initial.items k;
    }
