use Rattle.std.proofs.Common.{ap, ◌∙◌}
use Rattle.ark_extensions.specs.Elements.{element}
use Rattle.ark_extensions.specs.ElementLaws.{root_times}
use Rattle.ark_extensions.proofs.tower.RootModulusQuadraticModulusQuadratic.times_non_residue.Goals as goal

pub returns : goal.returns
returns g c =
    let x = c.args.element in
    ap element (c.new.ensures ∙ ap (λ t. (t, x.c0)) c.times_non_residue.ensures)
    ∙ root_times g.F.Field.field g.met.F.Field.field_laws g.M.QuadraticModulus.non_residue x
