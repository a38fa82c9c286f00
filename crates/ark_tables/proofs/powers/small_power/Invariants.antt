use Rattle.std.proofs.Common.{◌≡◌, ◌/◌, ◌^◌}
use Rattle.ark_math.specs.Field.{power}
use Rattle.ark_tables.proofs.powers.small_power.Given as goal

abbrev pub invariant-loop-bit : goal.invariant-loop-bit
invariant-loop-bit g l = l.power ≡ power g.F.Field.field l.base (l.exponent / 2 ^ l.bit)
