use Rattle.std.proofs.Common.{◌≡◌, ◌<◌, length, sym, subst, subst₂, ◌∙◌, arith, below_more}
use Rattle.std.proofs.Common.{get_or-set_same, get_or-set_other}
use Rattle.std.proofs.lemmas.List.{get_or_read, length-set}
use Rattle.ark_math.specs.Univariate.{IsValue, of_list}
use Rattle.ark_subproducts.proofs.roots.put_back.Goals as goal

pub loop-i-preserved : goal.loop-i-preserved
loop-i-preserved g c =
    let K = g.F.Field.field in
    let v = c.loop-i.invariant in
    let i = c.loop-i.i in
    let xs = c.loop-i.values in
    let points = c.args.points.now in
    let others = c.args.others.now in
    let new = c.value_at.result in
    let inside : i < length xs = omega (arith, c.loop-i-test.true, c.requires.len, v.len) in
    let point : c.index-points-i.result ≡ of_list K points i = get_or_read points i c.index-points-i.result c.loop-i-test.true c.index-points-i.is K.zero in
    let other : c.index-others-i.result ≡ of_list K others i = get_or_read others i c.index-others-i.result (omega (arith, c.loop-i-test.true, c.requires.others.len)) c.index-others-i.is K.zero in
    let own : c.index-values-i.result ≡ of_list K c.args.values.now i = get_or_read xs i c.index-values-i.result inside c.index-values-i.is K.zero ∙ v.rest i (omega arith) in
    record {
      len = length-set xs i new ∙ v.len;
      done = λ p A h. below_more _ i
          (λ k l. subst (IsValue K p (of_list K points k)) (sym (get_or-set_other xs i k new K.zero (omega (arith, l)))) (v.done p A h k l))
          (subst₂ (IsValue K p) point (sym (get_or-set_same xs i new K.zero inside))
          (c.value_at.ensures p A (subst₂ (IsValue K p) (sym other) (sym own) (h i c.loop-i-test.true))));
      rest = λ k l. get_or-set_other xs i k new K.zero (omega (arith, l)) ∙ v.rest k (omega (arith, l));
    }
