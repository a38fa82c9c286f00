use Rattle.std.proofs.Common.{◌≡◌, ◌<◌, ℕ, length}
use Rattle.ark_math.specs.Univariate.{of_list}
use Rattle.ark_bit_reversed.proofs.table.multiply_each.Given as goal

abbrev pub invariant-loop-i : goal.invariant-loop-i
invariant-loop-i g l =
    let K = g.F.Field.field in
    record {
      len : length l.items ≡ length l.initial.items;
      done : (k : ℕ) → k < l.i → of_list K l.items k ≡ K.times (of_list K l.known k) l.factor;
    }
