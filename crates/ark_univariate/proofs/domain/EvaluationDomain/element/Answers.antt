use Rattle.std.proofs.Common.{ap, ap₂, ◌∙◌}
use Rattle.ark_math.specs.Field.{power}
use Rattle.ark_univariate.proofs.domain.EvaluationDomain.element.Goals as goal

pub returns : goal.returns
returns g c =
    let K = g.F.Field.field in
    g.met.F.Field.mul_law _ _ _ c.mul.ensures
    ∙ ap₂ K.times c.coset_offset.ensures (c.pow.ensures ∙ ap (λ r. power K r c.args.i) c.group_gen.ensures)
