use Rattle.std.proofs.Common.{◌≡◌, ◌≢◌, ℕ, ◌<◌, ◌+◌, get_or, vec_len}
use Rattle.ark_math.specs.Field.{power}
use Rattle.ark_coeffs.proofs.progressions.indicator.Given as goal

abbrev pub invariant-loop : goal.invariant-loop
invariant-loop g l =
    let K = g.F.Field.field in
    record {
      len : vec_len l.items ≡ l.counter;
      next_is : l.next ≡ K.times l.fn.offset (power K l.fn.root l.counter);
      after_is : l.after ≡ K.times l.fn.offset (power K l.fn.root (l.counter + 1));
      here : (i : ℕ) → i < l.counter → K.times l.fn.offset (power K l.fn.root i) ≡ l.fn.tau → get_or l.items.items i K.zero ≡ K.one;
      elsewhere : (i : ℕ) → i < l.counter → K.times l.fn.offset (power K l.fn.root i) ≢ l.fn.tau → get_or l.items.items i K.zero ≡ K.zero;
    }
