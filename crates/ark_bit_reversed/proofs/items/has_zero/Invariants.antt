use Rattle.std.proofs.Common.{◌≢◌, ℕ, ◌<◌}
use Rattle.ark_math.specs.Univariate.{of_list}
use Rattle.ark_bit_reversed.proofs.items.has_zero.Given as goal

abbrev pub invariant-loop-i : goal.invariant-loop-i
invariant-loop-i g l = (k : ℕ) → k < l.i → of_list g.F.Field.field l.items k ≢ g.F.Field.field.zero
