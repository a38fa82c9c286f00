use Rattle.std.proofs.Common.{ap, ◌∙◌}
use Rattle.ark_math.specs.Domain.{element}
use Rattle.shards_lib.proofs.Values.{element_is}
use Rattle.shards_lib.proofs.stripes.RowCode.element_at.Goals as goal

pub returns : goal.returns
returns g c =
    let K = g.F.Field.field in
    let self = c.args.self.now in
    c.element.ensures ∙ ap (λ d. element K d c.args.place) self.same ∙ element_is K g.F.FftField.root self.n g.met.F.Field.field_laws self.code.domain self.over c.args.place
