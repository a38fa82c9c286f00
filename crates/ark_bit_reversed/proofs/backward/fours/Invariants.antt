use Rattle.std.proofs.Common.{◌≡◌, ◌+◌, ◌*◌, ◌<◌, ◌≤◌, ℕ}
use Rattle.ark_math.specs.Univariate.{of_list}
use Rattle.ark_bit_reversed.specs.Blocks.{AreTurnedBack}
use Rattle.ark_bit_reversed.proofs.backward.fours.Given as goal

abbrev pub invariant-loop-r : goal.invariant-loop-r
invariant-loop-r g l =
    let K = g.F.Field.field in
    record {
      turned : (k : ℕ) → k < l.r → AreTurnedBack K (of_list K l.inverses (l.start + k)) (of_list K l.inverses (2 * (l.start + k))) (of_list K l.inverses (2 * (l.start + k) + 1))
          (of_list K l.initial.values (4 * k)) (of_list K l.initial.values (4 * k + 1)) (of_list K l.initial.values (4 * k + 2)) (of_list K l.initial.values (4 * k + 3))
          (of_list K l.values (4 * k)) (of_list K l.values (4 * k + 1)) (of_list K l.values (4 * k + 2)) (of_list K l.values (4 * k + 3));
      rest : (k : ℕ) → 4 * l.r ≤ k → of_list K l.values k ≡ of_list K l.initial.values k;
    }
