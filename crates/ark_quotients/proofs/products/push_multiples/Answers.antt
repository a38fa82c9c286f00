use Rattle.std.proofs.Common.{◌+◌, refl, ap, ◌∙◌, arith}
use Rattle.ark_math.specs.Univariate.{of_pairs, monomial}
use Rattle.ark_math_polynomials.proofs.Polynomials.PairProducts.{multiples_none, multiples_more, multiples_all}
use Rattle.ark_quotients.proofs.products.push_multiples.Goals as goal

pub loop-i-init : goal.loop-i-init
loop-i-init g c =
    let K = g.F.Field.field in
    multiples_none K g.met.F.Field.field_laws (of_pairs K c.args.products.now.items) (monomial K c.args.term.0 c.args.term.1)

pub loop-i-preserved : goal.loop-i-preserved
loop-i-preserved g c =
    let K = g.F.Field.field in
    let x = c.index-terms-i.result in
    ap (of_pairs K) c.in_ok-push.ensures.items
    ∙ multiples_more K g.met.F.Field.field_laws (of_pairs K c.args.products.now.items) c.args.term x (c.args.term.0 + x.0, c.mul.result) c.args.terms.now c.loop-i.products.items c.loop-i.i
    c.loop-i-test.true c.index-terms-i.is refl (g.met.F.Field.mul_law _ _ _ c.mul.ensures) c.loop-i.invariant

pub returns : goal.returns
returns g c =
    let K = g.F.Field.field in
    c.loop-i.invariant
    ∙ multiples_all K g.met.F.Field.field_laws (of_pairs K c.args.products.now.items) (monomial K c.args.term.0 c.args.term.1) c.args.terms.now c.loop-i.i (let t = c.loop-i-test.false in omega arith)
