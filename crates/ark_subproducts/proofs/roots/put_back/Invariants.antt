use Rattle.std.proofs.Common.{◌≡◌, ◌≤◌, ℕ, length}
use Rattle.ark_bit_reversed.specs.Blocks.{AreFirstValues, size_of}
use Rattle.ark_math.specs.Univariate.{of_list}
use Rattle.ark_math_points.specs.AtPoints.{HasValues}
use Rattle.ark_subproducts.proofs.roots.put_back.Given as goal

abbrev pub invariant-loop-i : goal.invariant-loop-i
invariant-loop-i g l =
    let K = g.F.Field.field in
    record {
      len : length l.values ≡ length l.initial.values;
      done : (p : ℕ → g.row.F.Denot) → AreFirstValues K l.blocks (size_of l.blocks) p l.known
          → HasValues K (length l.points) (of_list K l.others) (of_list K l.initial.values) p
          → HasValues K l.i (of_list K l.points) (of_list K l.values) p;
      rest : (k : ℕ) → l.i ≤ k → of_list K l.values k ≡ of_list K l.initial.values k;
    }
