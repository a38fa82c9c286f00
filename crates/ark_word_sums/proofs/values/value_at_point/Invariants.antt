use Rattle.std.proofs.Common.{◌≡◌, ◌+◌, drop, length}
use Rattle.ark_sum_check.specs.Cube.{sum_value}
use Rattle.ark_sum_check.specs.Provers.{sum_of, variables_of}
use Rattle.ark_word_sums.proofs.values.value_at_point.Given as goal

-- what is left, at what is left of the point
abbrev pub invariant-loop-i : goal.invariant-loop-i
invariant-loop-i g l =
    let K = g.F.Field.field in
    record {
      value : sum_value K (sum_of K l.left) (drop l.i l.point) ≡ sum_value K (sum_of K l.fn.prover) l.point;
      count : variables_of l.left + l.i ≡ length l.point;
    }
