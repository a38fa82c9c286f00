use Rattle.std.proofs.Common.{◌≡◌, ◌+◌, [], ◌∷◌, length, sym, ap, subst, ◌∙◌, arith, below_more}
use Rattle.std.proofs.lemmas.List.{get_or_read, get_or_push, get_or_append_left, length-append}
use Rattle.ark_math.specs.Univariate.{of_list, IsValue}
use Rattle.ark_subproducts.proofs.values.naive_evaluate_at.Goals as goal

pub loop-i-preserved : goal.loop-i-preserved
loop-i-preserved g c =
    let K = g.F.Field.field in
    let v = c.loop-i.invariant in
    let i = c.loop-i.i in
    let points = c.args.points.now in
    let a = of_list K c.args.polynomial.now in
    let ys = c.loop-i.values.items in
    let y = c.in_ok-value.value in
    let new = c.in_ok-push.ensures.items in
    let read : c.index-points-i.result ≡ of_list K points i = get_or_read points i c.index-points-i.result c.loop-i-test.true c.index-points-i.is K.zero in
    record {
      len = ap length new ∙ length-append ys (y ∷ []) ∙ ap (λ t. t + 1) v.len;
      done = below_more _ i
          (λ k l. subst (IsValue K a (of_list K points k)) (sym (ap (λ t. of_list K t k) new ∙ get_or_append_left ys (y ∷ []) K.zero k (omega (arith, l, v.len)))) (v.done k l))
          (subst (IsValue K a (of_list K points i)) (sym (ap (λ t. of_list K t i) new ∙ get_or_push ys y K.zero i v.len))
          (subst (λ t. IsValue K a t y) read c.in_ok-value.ensures.value));
    }

pub returns-clause-values : goal.returns-clause-values
returns-clause-values g c =
    let K = g.F.Field.field in
    λ k l. c.loop-i.invariant.done k (omega (arith, l, c.loop-i-test.false))
