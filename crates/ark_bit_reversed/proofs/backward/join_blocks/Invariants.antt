use Rattle.std.proofs.Common.{◌≡◌, ◌+◌, ◌*◌, ◌<◌, ◌≤◌, ℕ}
use Rattle.ark_math.specs.Field.{minus}
use Rattle.ark_math.specs.Univariate.{of_list}
use Rattle.ark_bit_reversed.specs.Blocks.{AreInverseRoots}
use Rattle.ark_bit_reversed.proofs.backward.join_blocks.Given as goal

abbrev pub invariant-loop-r : goal.invariant-loop-r
invariant-loop-r g l =
    let K = g.F.Field.field in
    record {
      sums : (k i : ℕ) → k < l.r → i < l.half → of_list K l.values (2 * l.half * k + i)
          ≡ K.plus (of_list K l.initial.values (2 * l.half * k + i)) (of_list K l.initial.values (2 * l.half * k + (l.half + i)));
      differences : (x : ℕ → g.row.F.Denot) → AreInverseRoots K x l.inverses → (k i : ℕ) → k < l.r → i < l.half
          → of_list K l.values (2 * l.half * k + (l.half + i)) ≡ K.times (of_list K l.inverses (l.start + k))
          (minus K (of_list K l.initial.values (2 * l.half * k + i)) (of_list K l.initial.values (2 * l.half * k + (l.half + i))));
      rest : (k : ℕ) → 2 * l.half * l.r ≤ k → of_list K l.values k ≡ of_list K l.initial.values k;
    }
