use Rattle.std.proofs.Common.{◌≡◌, ◌++◌, map, take, drop}
use Rattle.ark_bit_reversed.proofs.items.square_each.Given as goal

abbrev pub invariant-loop-i : goal.invariant-loop-i
invariant-loop-i g l =
    let K = g.F.Field.field in
    l.items ≡ map (λ r. K.times r r) (take l.i l.initial.items) ++ drop l.i l.initial.items
