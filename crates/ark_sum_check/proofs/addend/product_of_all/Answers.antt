use Rattle.std.proofs.Common.{◌≡◌, ◌≢◌, length, sym, ap, ◌∙◌, arith, eqb-true}
use Rattle.std.proofs.lemmas.Bool.{eqb-false}
use Rattle.std.proofs.lemmas.List.{get_or_read}
use Rattle.ark_math.specs.Module.{tabulate}
use Rattle.ark_math.specs.Univariate.{of_list}
use Rattle.ark_sum_check.specs.Cube.{all_of, combined, picked_product}
use Rattle.ark_sum_check.proofs.Products.{all-more, combined-all}
use Rattle.ark_sum_check.proofs.addend.product_of_all.Goals as goal

pub returns-then-is_empty : goal.returns-then-is_empty
returns-then-is_empty g c =
    let K = g.F.Field.field in
    let v = of_list K c.args.values.now in
    let none : 0 ≡ length c.args.values.now = sym (eqb-true (length c.args.values.now) 0 (sym c.is_empty.ensures ∙ c.if-is_empty.true)) in
    c.one.ensures ∙ g.met.F.Field.one_law ∙ sym (combined-all K g.met.F.Field.field_laws 0 v) ∙ ap (λ n. combined K (all_of K n) v) none

pub loop-i-init : goal.loop-i-init
loop-i-init g c =
    let K = g.F.Field.field in
    let vs = c.args.values.now in
    let some : length vs ≢ 0 = eqb-false (length vs) 0 (sym c.is_empty.ensures ∙ c.if-is_empty.false) in
    get_or_read vs 0 c.index-values-0.result (omega arith) c.index-values-0.is K.zero ∙ sym (g.met.F.Field.field_laws.times_one (of_list K vs 0))

pub loop-i-preserved : goal.loop-i-preserved
loop-i-preserved g c =
    let K = g.F.Field.field in
    let vs = c.args.values.now in
    let i = c.loop-i.i in
    all-more K g.met.F.Field.field_laws i (of_list K vs) c.loop-i.product c.mul-product.result c.loop-i.invariant
    (g.met.F.Field.mul_law _ _ _ c.mul-product.ensures ∙ ap (K.times c.loop-i.product) (get_or_read vs i c.index-values-i.result (omega arith) c.index-values-i.is K.zero))

pub returns : goal.returns
returns g c =
    let K = g.F.Field.field in
    let v = of_list K c.args.values.now in
    let some : length c.args.values.now ≢ 0 = eqb-false (length c.args.values.now) 0 (sym c.is_empty.ensures ∙ c.if-is_empty.false) in
    let all : c.loop-i.i ≡ length c.args.values.now = omega arith in
    c.loop-i.invariant ∙ ap (λ n. picked_product K (tabulate n (λ i. i)) v) all ∙ sym (combined-all K g.met.F.Field.field_laws (length c.args.values.now) v)
