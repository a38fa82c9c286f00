use Rattle.std.proofs.Common.{ap, ap₂, ◌∙◌}
use Rattle.ark_extensions.specs.Elements.{element, embedded, extension}
use Rattle.ark_extensions.specs.ElementLaws.{extension_laws, multiple_is_product}
use Rattle.ark_extensions.proofs.quadratic.base.QuadraticQuadraticExtensionOf.mul_by_base.Goals as goal

pub returns : goal.returns
returns g c =
    let K = g.F.Field.field in
    let w = g.M.QuadraticModulus.non_residue in
    ap element (c.new.ensures ∙ ap₂ (λ x y. (x, y)) c.mul_by_base.ensures c.mul_by_base-2.ensures)
    ∙ multiple_is_product (extension K w) (extension_laws K g.met.F.Field.field_laws w g.met.M.QuadraticModulus.no_square) g.N.QuadraticModulus.non_residue (embedded K c.args.factor) c.args.self
