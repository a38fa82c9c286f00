use Rattle.std.proofs.Common.{◌≡◌, ◌+◌, ◌*◌, ◌-◌, ◌^◌, ◌<◌, ℕ, length}
use Rattle.ark_math.specs.Univariate.{of_list, value_below}
use Rattle.ark_bit_reversed.specs.Blocks.{AreRoots}
use Rattle.ark_bit_reversed.proofs.forward.down_to_fours.Given as goal

abbrev pub invariant-loop-level : goal.invariant-loop-level
invariant-loop-level g l =
    let K = g.F.Field.field in
    record {
      len : length l.values ≡ length l.initial.values;
      whole : length l.initial.values ≡ l.count * (2 * l.half);
      halves : l.half ≡ 2 ^ (l.levels - (l._level - 1));
      done : (x : ℕ → g.row.F.Denot) → AreRoots K x l.roots → (r j : ℕ) → r < l.count → j < 2 * l.half → of_list K l.values (2 * l.half * r + j) ≡ value_below K l.count (λ k. of_list K l.initial.values (2 * l.half * k + j)) (x (l.block * l.count + r));
    }
