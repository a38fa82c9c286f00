use Rattle.std.proofs.Common.{arith}
use Rattle.ark_math.proofs.Numbers.GreatestPowers.{log2_up}
use Rattle.ark_traits.proofs.numbers.log2.Goals as goal

pub returns-else-x-lt2 : goal.returns-else-x-lt2
returns-else-x-lt2 c = log2_up c.args.x c.ilog2.result c.ilog2.ensures.power_le c.ilog2.ensures.next_power_gt (omega (arith, c.if-x-lt2.false))
