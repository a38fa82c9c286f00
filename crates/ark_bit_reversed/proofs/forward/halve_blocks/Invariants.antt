use Rattle.std.proofs.Common.{◌≡◌, ◌+◌, ◌*◌, ◌<◌, ◌≤◌, ℕ, length}
use Rattle.ark_math.specs.Univariate.{of_list, value_below}
use Rattle.ark_bit_reversed.specs.Blocks.{AreRoots}
use Rattle.ark_bit_reversed.proofs.forward.halve_blocks.Given as goal

abbrev pub invariant-loop-r : goal.invariant-loop-r
invariant-loop-r g l =
    let K = g.F.Field.field in
    record {
      len : length l.values ≡ length l.initial.values;
      done : (x : ℕ → g.row.F.Denot) → AreRoots K x l.roots → (r i j : ℕ) → r < l.r → i < 2 → j < l.half → of_list K l.values (l.half * (2 * r + i) + j) ≡ value_below K 2 (λ k. of_list K l.initial.values (l.half * (2 * r + k) + j)) (x (2 * (l.start + r) + i));
      rest : (k : ℕ) → 2 * l.half * l.r ≤ k → of_list K l.values k ≡ of_list K l.initial.values k;
    }
