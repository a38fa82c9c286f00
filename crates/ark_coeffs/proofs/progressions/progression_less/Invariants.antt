use Rattle.std.proofs.Common.{◌≡◌, ℕ, ◌<◌, ◌+◌, get_or, vec_len}
use Rattle.ark_math.specs.Field.{power, minus}
use Rattle.ark_coeffs.proofs.progressions.progression_less.Given as goal

abbrev pub invariant-loop : goal.invariant-loop
invariant-loop g l =
    let K = g.F.Field.field in
    record {
      len : vec_len l.items ≡ l.counter;
      next_is : l.next ≡ K.times l.fn.first (power K l.fn.ratio l.counter);
      after_is : l.after ≡ K.times l.fn.first (power K l.fn.ratio (l.counter + 1));
      before : (i : ℕ) → i < l.counter → get_or l.items.items i K.zero ≡ minus K (K.times l.fn.first (power K l.fn.ratio i)) l.fn.constant;
    }
