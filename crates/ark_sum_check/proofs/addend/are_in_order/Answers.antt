use Rattle.std.proofs.Common.{arith}
use Rattle.ark_math.proofs.Lists.Tabulated.{is_tabulated}
use Rattle.ark_sum_check.proofs.addend.are_in_order.Goals as goal

pub returns : goal.returns
returns c _ =
    is_tabulated 0 c.args.indices.now c.args.count (λ i. i) (omega arith)
    (λ k l. c.loop-i.invariant k (omega arith))
