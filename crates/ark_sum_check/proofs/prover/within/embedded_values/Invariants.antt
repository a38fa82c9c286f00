use Rattle.std.proofs.Common.{◌≡◌, map, take}
use Rattle.ark_sum_check.proofs.prover.within.embedded_values.Given as goal

abbrev pub invariant-loop-i : goal.invariant-loop-i
invariant-loop-i g l = l.embedded.items ≡ map g.E.ExtensionOf.within (take l.i l.values)
