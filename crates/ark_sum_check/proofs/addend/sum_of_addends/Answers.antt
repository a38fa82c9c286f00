use Rattle.std.proofs.Common.{◌<◌, length, sym, ap, subst, ◌∙◌, arith}
use Rattle.std.specs.Prelude.{All}
use Rattle.ark_math.specs.Univariate.{of_list}
use Rattle.ark_math.proofs.Lists.Lists.{item_of}
use Rattle.ark_sum_check.specs.Cube.{combined, picked_product}
use Rattle.ark_sum_check.specs.Lists.{as_products}
use Rattle.ark_sum_check.proofs.Products.{combined-begin, combined-end, combined-next}
use Rattle.ark_sum_check.proofs.addend.sum_of_addends.Goals as goal

pub loop-addend-init : goal.loop-addend-init
loop-addend-init g c =
    let K = g.F.Field.field in
    let bs = c.args.addends.now in
    let v = of_list K c.args.values.now in
    ap (λ z. K.plus z (combined K (as_products bs) v)) (c.zero-sum.ensures ∙ g.met.F.Field.zero_law) ∙ combined-begin K g.met.F.Field.field_laws bs v

pub scaled_product-requires : goal.scaled_product-requires
scaled_product-requires g c =
    let n = length c.args.values.now in
    subst (All (λ i. i < n)) (sym c.deref.ensures.value)
    (item_of (λ a. All (λ i. i < n) a.factors.items) c.args.addends.now c.loop-addend.addend-index c.addend-item.result c.requires c.loop-addend-test.true c.addend-item.is)

pub loop-addend-preserved : goal.loop-addend-preserved
loop-addend-preserved g c =
    let K = g.F.Field.field in
    let v = of_list K c.args.values.now in
    let a = c.addend-item.result in
    combined-next K g.met.F.Field.field_laws c.args.addends.now v c.loop-addend.addend-index a c.loop-addend.sum c.add_assign.new.self _ c.loop-addend-test.true c.addend-item.is
    (g.met.F.Field.add_assign_law _ _ _ c.add_assign.ensures.after
    ∙ ap (K.plus c.loop-addend.sum) (c.scaled_product.ensures ∙ ap (λ is. K.times a.coefficient (picked_product K is v)) c.deref.ensures.value)) c.loop-addend.invariant

pub returns : goal.returns
returns g c =
    let K = g.F.Field.field in
    combined-end K g.met.F.Field.field_laws c.args.addends.now (of_list K c.args.values.now) c.loop-addend.addend-index c.loop-addend.sum _ (omega arith) c.loop-addend.invariant
