use Rattle.std.proofs.Common.{◌≡◌, ◌<◌, ◌^◌, drop, max}
use Rattle.ark_sum_check.specs.Cube.{longest}
use Rattle.ark_sum_check.specs.Lists.{as_products}
use Rattle.ark_sum_check.proofs.addend.most_factors.Given as goal

abbrev pub invariant-loop-addend : goal.invariant-loop-addend
invariant-loop-addend g l = record {
  most : max l.most (longest (as_products (drop l.addend-index l.addends))) ≡ longest (as_products l.addends);
  few : l.most < 2 ^ 63;
}
