use Rattle.std.proofs.Common.{◌<◌, ◌^◌, subst, arith}
use Rattle.ark_math.specs.Cost.{GrowsBy, butterfly_counts}
use Rattle.ark_fft.proofs.Halving.{few_levels}
use Rattle.ark_fft.proofs.Mixed.{even_transformed, one_transformed, power_butterflies, no_butterflies}
use Rattle.ark_fft.proofs.domain.mixed_radix.kernel.even_transform.Goals as goal

pub bit_reverse-requires-clause-few : goal.bit_reverse-requires-clause-few
bit_reverse-requires-clause-few g c =
    let b : 2 ^ c.args.levels < 2 ^ 64 = omega (arith, c.requires.size, c.requires.small) in
    few_levels c.args.levels b

pub returns-then-levels-gt0-clause-transformed : goal.returns-then-levels-gt0-clause-transformed
returns-then-levels-gt0-clause-transformed g c = λ v levels i l.
    even_transformed g.met.F.Field.field_laws g.met.T.Summand.module_laws g.T.Summand.meaning c.args.levels _ v c.args.xs.now c.halves.new.xs c.bit_reverse.new.xs c.requires.size (omega arith) (omega arith) (c.halves.ensures.sums v levels) c.bit_reverse.ensures i l

pub returns-then-levels-gt0-clause-counted : goal.returns-then-levels-gt0-clause-counted
returns-then-levels-gt0-clause-counted g c =
    subst (λ k. GrowsBy (butterfly_counts k) c.args.work.now c.halves.new.work) (power_butterflies c.args.levels _ c.requires.size) c.halves.ensures.counted

pub returns-else-levels-gt0-clause-transformed : goal.returns-else-levels-gt0-clause-transformed
returns-else-levels-gt0-clause-transformed g c = λ v levels i l.
    one_transformed g.met.F.Field.field_laws g.met.T.Summand.module_laws g.T.Summand.meaning c.args.levels _ v c.args.xs.now c.requires.size (omega arith) i l

pub returns-else-levels-gt0-clause-counted : goal.returns-else-levels-gt0-clause-counted
returns-else-levels-gt0-clause-counted g c = no_butterflies c.args.levels _ c.args.work.now (omega arith)
