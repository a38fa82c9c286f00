use Rattle.std.proofs.Common.{◌≡◌, ap, sym, refl, ◌∙◌}
use Rattle.ark_extensions.specs.Elements.{embedded, extension}
use Rattle.ark_extensions.proofs.quadratic.base.QuadraticQuadraticExtensionOf.as_base.Goals as goal

pub returns-in-Some-clause-none : goal.returns-in-Some-clause-none
returns-in-Some-clause-none g c =
    let K = g.F.Field.field in
    let E = extension K g.M.QuadraticModulus.non_residue in
    let here = c.in-Some.ensures.some in
    let below = c.as_base-in-Some.ensures.none in
    (λ none a e. below.0 none a (ap (λ x. x.c0) (sym here ∙ e)), λ outside. below.1 (λ a e. outside a (here ∙ ap (embedded E) e)))

pub returns-in-None-clause-none : goal.returns-in-None-clause-none
returns-in-None-clause-none g c = (λ none a e. c.in-None.ensures.none.0 none (embedded g.F.Field.field a) e, λ outside. refl)
