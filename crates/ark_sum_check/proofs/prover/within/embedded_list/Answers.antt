use Rattle.std.proofs.Common.{take_all, ap, ◌∙◌, arith}
use Rattle.ark_sum_check.specs.Embedded.{embedded_products}
use Rattle.ark_sum_check.specs.Lists.{as_products}
use Rattle.ark_sum_check.proofs.Embeddings.{addends_kept-more, within_kept}
use Rattle.ark_sum_check.proofs.prover.within.embedded_list.Goals as goal

pub loop-i-init : goal.loop-i-init
loop-i-init g c = ap as_products c.in_ok-embedded.ensures.items

pub loop-i-preserved : goal.loop-i-preserved
loop-i-preserved g c =
    let e = g.E.ExtensionOf.within in
    let ps = c.args.addends.now in
    let i = c.loop-i.i in
    let a = c.index-addends-i.result in
    let b = c.in_ok-addend.addend in
    ap as_products c.in_ok-push.ensures.items
    ∙ addends_kept-more e ps i a c.loop-i.embedded.items b (omega arith) c.index-addends-i.is c.in_ok-addend.ensures.coefficient c.in_ok-addend.ensures.factors c.loop-i.invariant

pub returns-clause-products : goal.returns-clause-products
returns-clause-products g c =
    c.loop-i.invariant ∙ ap (λ ps. embedded_products g.E.ExtensionOf.within (as_products ps)) (take_all c.loop-i.i c.args.addends.now (omega arith))

pub returns-clause-within : goal.returns-clause-within
returns-clause-within g c n h =
    within_kept g.E.ExtensionOf.within n c.args.addends.now c.loop-i.embedded.items
    (c.loop-i.invariant ∙ ap (λ ps. embedded_products g.E.ExtensionOf.within (as_products ps)) (take_all c.loop-i.i c.args.addends.now (omega arith))) h
