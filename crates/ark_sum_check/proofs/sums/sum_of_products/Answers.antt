use Rattle.std.proofs.Common.{length, sym, ap, subst, ◌∙◌}
use Rattle.ark_math.specs.Univariate.{of_list}
use Rattle.ark_sum_check.specs.Cube.{combined}
use Rattle.ark_sum_check.specs.Lists.{AreWithin, FitTables, as_products, as_sum}
use Rattle.ark_sum_check.specs.Provers.{addends_of}
use Rattle.ark_sum_check.proofs.sums.sum_of_products.Goals as goal

pub sum_of_addends-requires : goal.sum_of_addends-requires
sum_of_addends-requires g c =
    let n = length c.args.values.now in
    subst (AreWithin n) (sym c.deref.ensures.value) (subst (FitTables n) c.in-Some.is c.requires)

pub returns-in-Some : goal.returns-in-Some
returns-in-Some g c =
    let K = g.F.Field.field in
    let v = of_list K c.args.values.now in
    let n = length c.args.values.now in
    c.sum_of_addends.ensures
    ∙ ap (λ bs. combined K (as_products bs) v) c.deref.ensures.value
    ∙ ap (λ o. combined K (addends_of K n (as_sum o)) v) (sym c.in-Some.is)

pub returns-in-None : goal.returns-in-None
returns-in-None g c =
    let K = g.F.Field.field in
    let v = of_list K c.args.values.now in
    let n = length c.args.values.now in
    c.product_of_all.ensures ∙ ap (λ o. combined K (addends_of K n (as_sum o)) v) (sym c.in-None.is)
