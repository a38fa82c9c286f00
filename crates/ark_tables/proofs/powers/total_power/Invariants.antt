use Rattle.std.proofs.Common.{◌≡◌, take}
use Rattle.ark_math_variables.specs.Term.{total_degree}
use Rattle.ark_tables.proofs.powers.total_power.Given as goal

abbrev pub invariant-loop-pair : goal.invariant-loop-pair
invariant-loop-pair l = l.total ≡ total_degree (take l.pair-index l.pairs)
