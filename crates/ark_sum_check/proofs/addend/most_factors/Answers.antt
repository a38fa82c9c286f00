use Rattle.std.proofs.Common.{◌≡◌, length, max, ap, ◌∙◌, arith, rules}
use Rattle.ark_sum_check.proofs.Products.{most-end, most-next}
use Rattle.ark_sum_check.proofs.addend.most_factors.Goals as goal

pub loop-addend-preserved : goal.loop-addend-preserved
loop-addend-preserved g c =
    let a = c.addend-item.result in
    let v = c.loop-addend.invariant in
    let count : c.len.result ≡ length a.factors.items = omega (arith, c.len.ensures, a.factors.ok) in
    let greater : c.max-most.result ≡ max c.loop-addend.most c.len.result = search rules in
    let more : c.max-most.result ≡ max c.loop-addend.most (length a.factors.items) = greater ∙ ap (max c.loop-addend.most) count in
    record {
      most = most-next c.args.addends.now c.loop-addend.addend-index a c.loop-addend.most c.max-most.result _ c.loop-addend-test.true c.addend-item.is more v.most;
      few = omega (arith, more, v.few, a.factors.small, a.factors.ok);
    }

pub returns-clause-most : goal.returns-clause-most
returns-clause-most g c = most-end c.args.addends.now c.loop-addend.addend-index c.loop-addend.most _ (omega arith) c.loop-addend.invariant.most
