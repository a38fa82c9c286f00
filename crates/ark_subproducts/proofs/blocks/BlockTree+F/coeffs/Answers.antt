use Rattle.std.proofs.Common.{◌∙◌, ap}
use Rattle.ark_math.specs.Univariate.{of_list}
use Rattle.ark_subproducts.proofs.Nodes.{nodes-length}
use Rattle.ark_subproducts.proofs.blocks.BlockTree+F.coeffs.Goals as goal

pub returns : goal.returns
returns g c roots count points tree =
    let K = g.F.Field.field in
    let is = ap (of_list K) c.coeffs.ensures.same ∙ c.product.ensures roots count points tree in
    record { is = is; len = nodes-length K g.met.F.Field.field_laws points c.coeffs.result.now c.coeffs.ensures.trimmed is }
