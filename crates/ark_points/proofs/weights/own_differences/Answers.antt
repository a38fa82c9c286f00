use Rattle.std.proofs.Common.{◌≡◌, ◌+◌, [], ◌∷◌, length, ap, ◌∙◌, arith, below_more}
use Rattle.std.proofs.lemmas.List.{get_or_read, get_or_push, get_or_append_left, length-append}
use Rattle.ark_math.specs.Univariate.{of_list}
use Rattle.ark_math_points.specs.AtPoints.{differences}
use Rattle.ark_points.proofs.weights.own_differences.Goals as goal

pub loop-i-preserved : goal.loop-i-preserved
loop-i-preserved g c =
    let K = g.F.Field.field in
    let v = c.loop-i.invariant in
    let i = c.loop-i.i in
    let points = c.args.points.now in
    let x = of_list K points in
    let ys = c.loop-i.products.items in
    let y = c.product_without.result in
    let new = c.in_ok-push.ensures.items in
    let read : c.index-points-i.result ≡ x i = get_or_read points i c.index-points-i.result c.loop-i-test.true c.index-points-i.is K.zero in
    record {
      len = ap length new ∙ length-append ys (y ∷ []) ∙ ap (λ t. t + 1) v.len;
      done = below_more _ i
          (λ k l. ap (λ t. of_list K t k) new ∙ get_or_append_left ys (y ∷ []) K.zero k (omega (arith, l, v.len)) ∙ v.done k l)
          (ap (λ t. of_list K t i) new ∙ get_or_push ys y K.zero i v.len ∙ c.product_without.ensures ∙ ap (differences K x i (length points)) read);
    }

pub returns-clause-products : goal.returns-clause-products
returns-clause-products g c = λ k l. c.loop-i.invariant.done k (omega (arith, l, c.loop-i-test.false))
