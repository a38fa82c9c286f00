use Rattle.std.proofs.Common.{ap, ◌∙◌, arith}
use Rattle.ark_math.specs.Univariate.{of_pairs, added, product, monomial}
use Rattle.ark_math_polynomials.proofs.Polynomials.PairProducts.{product_rows_none, product_rows_more, product_rows_all}
use Rattle.ark_quotients.proofs.products.all_products.Goals as goal

pub loop-i-init : goal.loop-i-init
loop-i-init g c =
    let K = g.F.Field.field in
    ap (of_pairs K) c.in_ok-products.ensures.items ∙ product_rows_none K g.met.F.Field.field_laws c.args.left.now (of_pairs K c.args.right.now)

pub loop-i-preserved : goal.loop-i-preserved
loop-i-preserved g c =
    let K = g.F.Field.field in
    let x = c.index-left-i.result in
    let right = of_pairs K c.args.right.now in
    c.in_ok-push_multiples.ensures
    ∙ ap (λ t. added K t (product K (monomial K x.0 x.1) right)) c.loop-i.invariant
    ∙ product_rows_more K g.met.F.Field.field_laws c.args.left.now right c.loop-i.i x c.loop-i-test.true c.index-left-i.is

pub returns : goal.returns
returns g c =
    let K = g.F.Field.field in
    c.loop-i.invariant
    ∙ product_rows_all K g.met.F.Field.field_laws c.args.left.now (of_pairs K c.args.right.now) c.loop-i.i (let t = c.loop-i-test.false in omega arith)
