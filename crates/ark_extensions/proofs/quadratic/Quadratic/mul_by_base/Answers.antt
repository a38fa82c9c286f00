use Rattle.std.proofs.Common.{ap, ap₂, ◌∙◌}
use Rattle.ark_extensions.specs.Elements.{element}
use Rattle.ark_extensions.specs.ElementLaws.{multiple_is_product}
use Rattle.ark_extensions.proofs.quadratic.Quadratic.mul_by_base.Goals as goal

pub returns : goal.returns
returns g c =
    let L = g.met.F.Field in
    ap element (c.new.ensures ∙ ap₂ (λ x y. (x, y)) (L.mul_law _ _ _ c.mul.ensures) (L.mul_law _ _ _ c.mul-2.ensures))
    ∙ multiple_is_product g.F.Field.field L.field_laws g.M.QuadraticModulus.non_residue c.args.factor c.args.self
