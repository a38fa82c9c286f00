use Rattle.std.proofs.Common.{◌≡◌}
use Rattle.ark_math.specs.Field.{power}
use Rattle.ark_traits.proofs.field.Field.pow.Given as goal

abbrev pub invariant-bits : goal.invariant-bits
invariant-bits g l =
    let K = g.Self.Field.field in
    K.times l.result (power K l.square l.left) ≡ power K l.fn.self l.fn.exponent

abbrev pub decreases-bits : goal.decreases-bits
decreases-bits g l = l.left
