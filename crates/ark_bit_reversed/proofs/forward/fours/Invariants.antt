use Rattle.std.proofs.Common.{◌≡◌, ◌+◌, ◌*◌, ◌<◌, ◌≤◌, ℕ, length}
use Rattle.ark_math.specs.Univariate.{of_list, value_below}
use Rattle.ark_bit_reversed.specs.Blocks.{AreRoots}
use Rattle.ark_bit_reversed.proofs.forward.fours.Given as goal

abbrev pub invariant-loop-r : goal.invariant-loop-r
invariant-loop-r g l =
    let K = g.F.Field.field in
    record {
      len : length l.values ≡ length l.initial.values;
      done : (x : ℕ → g.row.F.Denot) → AreRoots K x l.roots → (r i : ℕ) → r < l.r → i < 4 → of_list K l.values (4 * r + i) ≡ value_below K 4 (λ j. of_list K l.initial.values (4 * r + j)) (x (4 * (l.start + r) + i));
      rest : (k : ℕ) → 4 * l.r ≤ k → of_list K l.values k ≡ of_list K l.initial.values k;
    }
