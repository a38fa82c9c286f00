use Rattle.std.proofs.Common.{ap, ap₂, ◌∙◌}
use Rattle.ark_extensions.specs.Elements.{element, extension, root}
use Rattle.ark_extensions.specs.ElementLaws.{extension_laws}
use Rattle.ark_extensions.proofs.tower.RootModulusQuadraticModulusQuadratic.product.Goals as goal

pub returns : goal.returns
returns g c =
    let K = g.F.Field.field in
    let w = g.M.QuadraticModulus.non_residue in
    let E = extension K w in
    let assoc = (extension_laws K g.met.F.Field.field_laws w g.met.M.QuadraticModulus.no_square).times_assoc in
    let a = c.args.a.now in
    let b = c.args.b.now in
    let first =
    c.sum_of_products.ensures
    ∙ ap (E.plus (E.times a.c0 b.c0)) (ap (λ t. E.times t b.c1) c.times_non_residue-turned.ensures ∙ assoc (root K) a.c1 b.c1) in
    ap element (c.new.ensures ∙ ap₂ (λ x y. (x, y)) first c.sum_of_products-2.ensures)
