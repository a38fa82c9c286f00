use Rattle.std.proofs.Common.{◌≡◌, length, ap, subst, ◌∙◌}
use Rattle.std.proofs.lemmas.Result.{IfOk-weaker}
use Rattle.ark_math.specs.Univariate.{of_list}
use Rattle.ark_math_points.specs.AtPoints.{HasValues}
use Rattle.ark_math_polynomials.specs.Nodes.{nodes}
use Rattle.ark_subproducts.specs.Tree.{derived}
use Rattle.ark_points.proofs.interpolation.slopes.Goals as goal

pub returns-clause-slopes : goal.returns-clause-slopes
returns-clause-slopes g c =
    let K = g.F.Field.field in
    let points = c.args.points.now in
    let is : of_list K c.from_coefficients_vec-derivative.result ≡ derived K (nodes K points) =
    c.from_coefficients_vec-derivative.ensures.coefficients ∙ c.in_ok-coeffs.ensures
    ∙ ap (λ t. derived K (of_list K t)) c.coeffs.ensures.same
    ∙ ap (derived K) (c.product.ensures.product points c.requires.tree) in
    IfOk-weaker c.values_with_tree.result _ _ (λ v h. subst (HasValues K (length points) (of_list K points) (of_list K v.items)) is h.values) c.values_with_tree.ensures.values

pub returns-clause-len : goal.returns-clause-len
returns-clause-len g c = IfOk-weaker c.values_with_tree.result _ _ (λ v h. h.len) c.values_with_tree.ensures.values
