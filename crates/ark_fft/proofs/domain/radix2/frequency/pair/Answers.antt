use Rattle.std.proofs.Common.{arith}
use Rattle.ark_fft.proofs.domain.radix2.frequency.pair.Goals as goal

pub bounds-xs-0 : goal.bounds-xs-0
bounds-xs-0 g c = omega (arith, c.requires)

pub bounds-xs-1 : goal.bounds-xs-1
bounds-xs-1 g c = omega (arith, c.requires)

pub bounds-xs-0-2 : goal.bounds-xs-0-2
bounds-xs-0-2 g c = omega (arith, c.requires)

pub returns-clause-counted : goal.returns-clause-counted
returns-clause-counted g c = c.butterfly.ensures.counted
