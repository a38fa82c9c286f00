use Rattle.std.proofs.Common.{◌≡◌, sym, ap, ap₂, ◌∙◌}
use Rattle.std.proofs.lemmas.List.{get_or_read}
use Rattle.ark_math.specs.Field.{minus}
use Rattle.ark_math.specs.Univariate.{of_list}
use Rattle.ark_math_points.proofs.AtPoints.Basis.{differences-same, differences-other}
use Rattle.ark_points.proofs.weights.product_without.Goals as goal
use Rattle.ark_points.proofs.weights.product_without.Goals.{then-j-place, else-j-place}

pub loop-j-preserved : goal.loop-j-preserved
loop-j-preserved g c =
    let K = g.F.Field.field in
    let N = g.met.F.Field.field_laws in
    let points = c.args.points.now in
    let x = of_list K points in
    let j = c.loop-j.j in
    let place = c.args.place in
    let t = c.args.at in
    elim c.if-j-place.branch [
      | then-j-place w ↦
          let read : w.index-points-j.result ≡ of_list K points j = get_or_read points j w.index-points-j.result c.loop-j-test.true w.index-points-j.is K.zero in
          w.product-is
          ∙ g.met.F.Field.mul_assign_law _ _ _ w.mul_assign.ensures.after
          ∙ ap₂ K.times c.loop-j.invariant (g.met.F.Field.sub_law _ _ _ w.sub.ensures ∙ ap (minus K t) read)
          ∙ sym (differences-other K x place j t w.if-j-place.true)
      | else-j-place w ↦
          w.product-is
          ∙ c.loop-j.invariant
          ∙ sym (differences-same K N x place j t w.if-j-place.false)
    ]
