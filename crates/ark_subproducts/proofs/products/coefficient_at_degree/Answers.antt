use Rattle.std.proofs.Common.{◌∙◌, arith}
use Rattle.ark_subproducts.proofs.UpperParts.{product_at_degree}
use Rattle.ark_subproducts.proofs.products.coefficient_at_degree.Goals as goal

pub returns : goal.returns
returns g c =
    c.loop-i.invariant
    ∙ product_at_degree g.F.Field.field g.met.F.Field.field_laws c.args.coeffs.now c.args.factor.now c.loop-i.i (omega (arith, c.loop-i-test.false, c.loop-i.auto.i-end, c.min-i-end.ensures))
