use Rattle.std.proofs.Common.{◌≡◌, ℕ, ◌+◌, ◌*◌, ◌<◌, length, take}
use Rattle.ark_math.specs.Univariate.{of_list, value_below}
use Rattle.ark_bit_reversed.specs.Blocks.{AreRoots}
use Rattle.ark_bit_reversed.proofs.values.push_blocks.Given as goal

abbrev pub invariant-loop-block : goal.invariant-loop-block
invariant-loop-block g l =
    let K = g.F.Field.field in
    record {
      len : length l.values.items ≡ l.block * l.len;
      before : take (length l.initial.values.items) l.values.items ≡ l.initial.values.items;
      done : (x : ℕ → g.row.F.Denot) → AreRoots K x l.roots
          → ((i : ℕ) → i < l.fn.blocks.start * l.len → of_list K l.initial.values.items i ≡ value_below K (l.len + l.len) (of_list K l.coeffs) (x i))
          → (i : ℕ) → i < l.block * l.len → of_list K l.values.items i ≡ value_below K (l.len + l.len) (of_list K l.coeffs) (x i);
    }
