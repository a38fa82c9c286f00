use Rattle.std.proofs.Common.{arith}
use Rattle.shards_format.proofs.Marks.{all_true}
use Rattle.shards_format.proofs.parts.first_false.Goals as goal

pub unreachable-requires : goal.unreachable-requires
unreachable-requires c =
    let all = all_true c.args.used.now (λ j l. c.loop-i.invariant j (omega arith)) in
    omega (arith, all)
