use Rattle.std.proofs.Common.{◌≡◌, ◌*◌}
use Rattle.ark_math.specs.Module.{itself, sum_below}
use Rattle.ark_math.specs.Univariate.{of_list}
use Rattle.ark_bit_reversed.proofs.items.sum_of_fours.Given as goal

abbrev pub invariant-loop-k : goal.invariant-loop-k
invariant-loop-k g l =
    let K = g.F.Field.field in
    K.plus (K.plus l.first l.second) (K.plus l.third l.fourth) ≡ sum_below (itself K) (4 * l.k) (of_list K l.items)
