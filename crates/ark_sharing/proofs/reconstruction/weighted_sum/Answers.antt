use Rattle.std.proofs.Common.{◌≡◌, get_or, sym, ap, ap₂, ◌∙◌, arith, add-one}
use Rattle.std.proofs.lemmas.List.{get_or_read}
use Rattle.ark_math.specs.Module.{itself, sum_below}
use Rattle.ark_math.specs.Univariate.{of_list}
use Rattle.ark_math_points.specs.AtPoints.{y_of}
use Rattle.ark_sharing.proofs.reconstruction.weighted_sum.Goals as goal

pub loop-i-preserved : goal.loop-i-preserved
loop-i-preserved g c =
    let K = g.F.Field.field in
    let i = c.loop-i.i in
    let weights = c.args.weights.now in
    let shares = c.args.shares.now in
    let weight : c.index-weights-i.result ≡ of_list K weights i = get_or_read weights i c.index-weights-i.result (omega (arith, c.loop-i-test.true, c.requires)) c.index-weights-i.is K.zero in
    let share : c.index-shares-i.result ≡ get_or shares i (K.zero, K.zero) = get_or_read shares i c.index-shares-i.result c.loop-i-test.true c.index-shares-i.is (K.zero, K.zero) in
    g.met.F.Field.add_assign_law _ _ _ c.add_assign.ensures.after
    ∙ ap₂ K.plus c.loop-i.invariant (g.met.F.Field.mul_law _ _ _ c.mul.ensures ∙ ap₂ K.times weight (ap (λ p. p.1) (sym c.index-shares-i.is ∙ share)))
    ∙ ap (λ n. sum_below (itself K) n (λ k. K.times (of_list K weights k) (y_of K shares k))) (sym (add-one i))
