use Rattle.std.proofs.Common.{◌≡◌, take}
use Rattle.ark_sharing.specs.Sharing.{added_shares}
use Rattle.examples.proofs.shared_sum.with_values_added.Given as goal

abbrev pub invariant-loop-i : goal.invariant-loop-i
invariant-loop-i g l = l.sums.items ≡ take l.i (added_shares g.F.Field.field l.left l.right)
