use Rattle.std.proofs.Common.{◌≡◌, drop}
use Rattle.ark_math_variables.specs.Term.{term_value}
use Rattle.ark_tables.proofs.powers.value_of_powers.Given as goal

abbrev pub invariant-loop-pair : goal.invariant-loop-pair
invariant-loop-pair g l =
    let K = g.F.Field.field in
    K.times l.value (term_value K (drop l.pair-index l.others) l.point) ≡ term_value K l.fn.pairs l.point
