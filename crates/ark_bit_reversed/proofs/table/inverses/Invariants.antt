use Rattle.std.proofs.Common.{◌≡◌, ℕ, ◌+◌, ◌<◌, length}
use Rattle.ark_math.specs.Univariate.{of_list}
use Rattle.ark_bit_reversed.specs.Blocks.{AreRoots}
use Rattle.ark_bit_reversed.proofs.table.inverses.Given as goal

abbrev pub invariant-loop-i : goal.invariant-loop-i
invariant-loop-i g l =
    let K = g.F.Field.field in
    record {
      len : length l.inverses.items ≡ l.i;
      done : (x : ℕ → g.row.F.Denot) → AreRoots K x l.roots → (k : ℕ) → k < l.i → K.times (of_list K l.inverses.items k) (x (k + k)) ≡ K.one;
    }
