use Rattle.std.proofs.Common.{◌≡◌, ◌^◌, ℕ}
use Rattle.ark_math.specs.Univariate.{of_list}
use Rattle.ark_bit_reversed.specs.Blocks.{AreInverseRoots}
use Rattle.ark_bit_reversed.proofs.Ascent.{AreUpTo}
use Rattle.ark_bit_reversed.proofs.backward.up_from_fours.Given as goal

abbrev pub invariant-loop-level : goal.invariant-loop-level
invariant-loop-level g l =
    let K = g.F.Field.field in
    record {
      half : l.half ≡ 2 ^ l._level;
      done : (x a : ℕ → g.row.F.Denot) → AreInverseRoots K x l.inverses → AreUpTo K x l.levels 2 l.block a (of_list K l.initial.values) → AreUpTo K x l.levels l._level l.block a (of_list K l.values);
    }
