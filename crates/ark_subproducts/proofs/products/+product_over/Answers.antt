use Rattle.std.proofs.Common.{◌≤◌, ◌<◌, ◌^◌, ap₂, subst, ◌∙◌, ◌/◌, length, arith}
use Rattle.ark_bit_reversed.specs.Blocks.{IsPowerOfTwo, size_of}
use Rattle.ark_bit_reversed.proofs.Callers.PowersOfTwo.{twice_is_power}
use Rattle.ark_math.specs.Univariate.{product}
use Rattle.ark_math.proofs.Outcomes.Results.{IfOk_more}
use Rattle.ark_subproducts.proofs.Nodes.{nodes-parts}
use Rattle.ark_subproducts.proofs.TableProducts.{twice_within}
use Rattle.ark_subproducts.proofs.products.+product_over.Goals as goal

pub count_for-requires : goal.count_for-requires
count_for-requires g t c =
    let table = c.in-Some.table in
    let room : length c.args.points.now ≤ size_of table = rw c.in-Some.is at c.in_ok-table.ensures.room in
    let power : IsPowerOfTwo (length table) = subst (λ t. IsPowerOfTwo (length t)) c.table.view_is c.table.invariant.power in
    let fits : size_of table < 2 ^ 64 = subst (λ t. size_of t < 2 ^ 64) c.table.view_is c.table.invariant.fits in
    omega (arith, room, twice_within (size_of table) (twice_is_power (length table) power) fits)

pub product-requires-clause-within : goal.product-requires-clause-within
product-requires-clause-within g t c =
    let table = c.in-Some.table in
    let room : length c.args.points.now ≤ size_of table = rw c.in-Some.is at c.in_ok-table.ensures.room in
    let power : IsPowerOfTwo (length table) = subst (λ t. IsPowerOfTwo (length t)) c.table.view_is c.table.invariant.power in
    c.count_for.ensures.least (size_of table) (twice_is_power (length table) power) room

pub returns-clause-product : goal.returns-clause-product
returns-clause-product g t c =
    let K = g.F.Field.field in
    let points = c.args.points.now in
    IfOk_more c.product_of.result
    (λ p h. h ∙ ap₂ (product K) c.in_ok-low.ensures.product c.in_ok-high.ensures.product ∙ nodes-parts K g.met.F.Field.field_laws points (length points / 2))
    c.product_of.ensures.product
