use Rattle.std.proofs.Common.{◌≡◌, ◌/◌, length, take, drop, sym, ap₂, subst, ◌∙◌}
use Rattle.ark_math.specs.Univariate.{of_list, product}
use Rattle.ark_math_polynomials.specs.Nodes.{nodes}
use Rattle.ark_subproducts.specs.Tree.{IsTreeOver}
use Rattle.ark_subproducts.proofs.Nodes.{nodes-halves}
use Rattle.ark_subproducts.proofs.tree.joined.Goals as goal

pub returns-clause-tree : goal.returns-clause-tree
returns-clause-tree g c =
    let K = g.F.Field.field in
    let N = g.met.F.Field.field_laws in
    let points = c.args.points.now in
    let half = length points / 2 in
    let low : of_list K c.product.result.now ≡ nodes K (take half points) =
    c.product.ensures.product (take half points) (subst (IsTreeOver K (take half points)) (sym c.deref.ensures) c.requires.low) in
    let high : of_list K c.product-2.result.now ≡ nodes K (drop half points) =
    c.product-2.ensures.product (drop half points) (subst (IsTreeOver K (drop half points)) (sym c.deref-2.ensures) c.requires.high) in
    subst (IsTreeOver K points) (sym c.in_ok-new.ensures.ok) (
      c.requires.many,
      c.in_ok-product.ensures.product ∙ ap₂ (product K) low high ∙ nodes-halves K N points half,
      c.requires.low,
      c.requires.high,
    )
