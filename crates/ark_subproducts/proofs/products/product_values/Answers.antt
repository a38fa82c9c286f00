use Rattle.std.proofs.Common.{sym, ap, subst, ◌∙◌, arith}
use Rattle.ark_bit_reversed.specs.Blocks.{AreFirstValues}
use Rattle.ark_math.specs.Univariate.{of_list}
use Rattle.ark_math.proofs.Outcomes.Results.{IfOk_more}
use Rattle.ark_subproducts.specs.Tree.{IsBegun}
use Rattle.ark_subproducts.proofs.TableProducts.{twice_within}
use Rattle.ark_subproducts.proofs.products.product_values.Goals as goal

pub count_for-requires : goal.count_for-requires
count_for-requires g c = omega (arith, twice_within c.args.count c.requires.power c.ranges.count.fits, c.requires.few)

pub product-requires-clause-within : goal.product-requires-clause-within
product-requires-clause-within g c = omega (arith, c.count_for.ensures.least c.args.count c.requires.power c.requires.few, c.requires.within)

pub extended-requires-clause-begun : goal.extended-requires-clause-begun
extended-requires-clause-begun g c =
    let count = c.args.count in
    subst (λ s. IsBegun g.F.Field.field c.args.table.now count s c.in_ok-coeffs.known) (sym c.deref.ensures.value)
    (c.in_ok-coeffs.ensures.begun count c.requires.many (c.count_for.ensures.least count c.requires.power c.requires.few))

pub returns : goal.returns
returns g c =
    let K = g.F.Field.field in
    let is = ap (of_list K) c.deref.ensures.value ∙ c.in_ok-coeffs.ensures.product in
    record { values = IfOk_more c.extended.result (λ v V. subst (λ a. AreFirstValues K c.args.table.now c.args.count a v.items) is V) c.extended.ensures.values }
