use Rattle.std.proofs.Common.{◌≡◌, take}
use Rattle.ark_sum_check.specs.Embedded.{embedded_products}
use Rattle.ark_sum_check.specs.Lists.{as_products}
use Rattle.ark_sum_check.proofs.prover.within.embedded_list.Given as goal

abbrev pub invariant-loop-i : goal.invariant-loop-i
invariant-loop-i g l = as_products l.embedded.items ≡ embedded_products g.E.ExtensionOf.within (as_products (take l.i l.addends))
