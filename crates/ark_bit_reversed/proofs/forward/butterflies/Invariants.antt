use Rattle.std.proofs.Common.{◌≡◌, ◌<◌, ◌≤◌, ℕ, length}
use Rattle.ark_math.specs.Field.{minus}
use Rattle.ark_math.specs.Univariate.{of_list}
use Rattle.ark_bit_reversed.proofs.forward.butterflies.Given as goal

abbrev pub invariant-loop-i : goal.invariant-loop-i
invariant-loop-i g l =
    let K = g.F.Field.field in
    record {
      low_len : length l.low ≡ length l.initial.low;
      high_len : length l.high ≡ length l.initial.high;
      sums : (k : ℕ) → k < l.i → of_list K l.low k ≡ K.plus (of_list K l.initial.low k) (K.times l.root (of_list K l.initial.high k));
      differences : (k : ℕ) → k < l.i → of_list K l.high k ≡ minus K (of_list K l.initial.low k) (K.times l.root (of_list K l.initial.high k));
      rest_low : (k : ℕ) → l.i ≤ k → of_list K l.low k ≡ of_list K l.initial.low k;
      rest_high : (k : ℕ) → l.i ≤ k → of_list K l.high k ≡ of_list K l.initial.high k;
    }
