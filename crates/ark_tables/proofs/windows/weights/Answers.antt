use Rattle.std.proofs.Common.{take, subst, sym, ap, ◌∙◌, ◌++◌, ◌∷◌, [], add-one}
use Rattle.std.proofs.Math.Seq.{take-suc}
use Rattle.ark_tables.proofs.Doubled.{AreWeights, AreWeights-next}
use Rattle.ark_tables.proofs.windows.weights.Goals as goal

pub loop-i-preserved : goal.loop-i-preserved
loop-i-preserved g c =
    let K = g.F.Field.field in
    let p = c.args.point.now in
    let i = c.loop-i.i in
    let x = c.index-point-i.result in
    let h = c.in_ok-double_weights.ensures in
    subst (λ q. AreWeights K q c.double_weights.new.weights.items)
    (sym (ap (λ n. take n p) (add-one i) ∙ take-suc p i x c.loop-i-test.true ∙ ap (λ t. take i p ++ t ∷ []) (sym c.index-point-i.is)))
    (AreWeights-next K g.met.F.Field.field_laws (take i p) c.loop-i.weights.items c.double_weights.new.weights.items x c.loop-i.invariant h.length h.low h.high)
