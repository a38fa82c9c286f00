use Rattle.std.proofs.Common.{◌∙◌}
use Rattle.ark_fft.proofs.Joining.{packed_levels}
use Rattle.ark_fft.proofs.domain.radix2.tables.pack_levels.Goals as goal

pub returns : goal.returns
returns g c = λ w n size table.
    packed_levels g.F.Field.field g.met.F.Field.field_laws n w c.args.table.now c.keep_every_second.new.xs c.continue_levels.new.xs size table
    (record {
      len = c.continue_levels.auto.xs ∙ c.keep_every_second.auto.xs;
      evens = c.keep_every_second.ensures;
      first = c.continue_levels.ensures.first;
      seconds = c.continue_levels.ensures.seconds;
    })
