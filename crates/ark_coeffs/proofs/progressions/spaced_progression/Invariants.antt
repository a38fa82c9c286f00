use Rattle.std.proofs.Common.{◌≡◌, ◌+◌, ◌-◌, length}
use Rattle.ark_math.specs.Field.{power}
use Rattle.ark_coeffs.proofs.Spaced.{IsSpaced}
use Rattle.ark_coeffs.proofs.progressions.spaced_progression.Given as goal

abbrev pub invariant-loop-k : goal.invariant-loop-k
invariant-loop-k g l =
    let K = g.F.Field.field in
    record {
      len : length l.items.items ≡ l.fn.size - l.fn.step + 1;
      next_is : l.next ≡ K.times l.fn.start (power K l.fn.ratio l.k);
      spaced : IsSpaced K l.fn.step (λ k. K.times l.fn.start (power K l.fn.ratio k)) l.k l.items.items;
    }
