use Rattle.std.proofs.Common.{◌<◌, get_or, length, ap, ◌∙◌, arith}
use Rattle.std.proofs.lemmas.List.{get_or_default, get_or_read}
use Rattle.std.proofs.lemmas.List.Elements.{All-get_or}
use Rattle.ark_math.specs.Univariate.{of_list}
use Rattle.ark_sum_check.proofs.Products.{picked-end, picked-next}
use Rattle.ark_sum_check.proofs.addend.scaled_product.Goals as goal

pub offset_bounds-values-index : goal.offset_bounds-values-index
offset_bounds-values-index g c =
    let inside = All-get_or (λ i. i < length c.args.values.now) c.args.indices.now c.loop-index.index-index 0 c.loop-index-test.true c.requires in
    omega (arith, inside)

pub bounds-values-index : goal.bounds-values-index
bounds-values-index g c = All-get_or (λ i. i < length c.args.values.now) c.args.indices.now c.loop-index.index-index 0 c.loop-index-test.true c.requires

pub loop-index-preserved : goal.loop-index-preserved
loop-index-preserved g c =
    let K = g.F.Field.field in
    let is = c.args.indices.now in
    let vs = c.args.values.now in
    let j = c.loop-index.index-index in
    let i = get_or is j 0 in
    let inside : i < length vs = All-get_or (λ k. k < length vs) is j 0 c.loop-index-test.true c.requires in
    picked-next K g.met.F.Field.field_laws is (of_list K vs) j i c.loop-index.product c.mul-product.result _ c.loop-index-test.true (get_or_default is j 0 i c.loop-index-test.true)
    (g.met.F.Field.mul_law _ _ _ c.mul-product.ensures ∙ ap (K.times c.loop-index.product) (get_or_read vs i c.index-values-index.result inside c.index-values-index.is K.zero))
    c.loop-index.invariant

pub returns : goal.returns
returns g c =
    let K = g.F.Field.field in
    picked-end K g.met.F.Field.field_laws c.args.indices.now (of_list K c.args.values.now) c.loop-index.index-index c.loop-index.product _ (omega arith) c.loop-index.invariant
