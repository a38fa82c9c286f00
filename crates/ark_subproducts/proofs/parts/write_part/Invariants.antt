use Rattle.std.proofs.Common.{◌≡◌, ◌<◌, ℕ, ◌+◌, ◌-◌, length}
use Rattle.ark_math.specs.Module.{sum_below, itself}
use Rattle.ark_math.specs.Univariate.{of_list}
use Rattle.ark_subproducts.proofs.parts.write_part.Given as goal

abbrev pub invariant-loop-i : goal.invariant-loop-i
invariant-loop-i g l =
    let K = g.F.Field.field in
    record {
      len : length l.items ≡ length l.fn.items;
      done : (j : ℕ) → j < length l.fn.items → of_list K l.items j ≡ sum_below (itself K) l.i (λ k. K.times (of_list K l.left k) (of_list K l.right (l.start + j - k)));
    }
