use Rattle.std.proofs.Common.{◌≡◌, ◌<◌, ◌/◌, ◌%◌, length, ap, ap₂, ◌∙◌, length-set, mod-lt, arith}
use Rattle.std.proofs.lemmas.List.{get_or_read}
use Rattle.ark_math.specs.Field.{power}
use Rattle.ark_math.specs.Univariate.{of_list}
use Rattle.ark_math_polynomials.proofs.Polynomials.PairProducts.{reduced_zeros, reduced_more, reduced_all}
use Rattle.ark_quotients.proofs.products.reduced_terms.Goals as goal

pub loop-i-init : goal.loop-i-init
loop-i-init g c = reduced_zeros g.F.Field.field g.met.F.Field.field_laws c.args.n c.args.constant c.in_ok-reduced.reduced.items c.in_ok-reduced.ensures

pub loop-i-preserved : goal.loop-i-preserved
loop-i-preserved g c =
    let K = g.F.Field.field in
    let n = c.args.n in
    let x = c.index-terms-i.result in
    let xs = c.loop-i.reduced.items in
    let y = c.add_assign.new.self in
    let len : length xs ≡ n = c.loop-i.invariant.0 in
    let low : x.0 % n < n = mod-lt x.0 c.requires in
    let inside : x.0 % n < length xs = omega (arith, len, low) in
    let is : y ≡ K.plus (of_list K xs (x.0 % n)) (K.times (power K c.args.constant (x.0 / n)) x.1) =
    g.met.F.Field.add_assign_law _ _ _ c.add_assign.ensures.after
    ∙ ap₂ K.plus
    (get_or_read xs (x.0 % n) c.index_mut.result.now inside c.index_mut.ensures.value K.zero)
    (g.met.F.Field.mul_law _ _ _ c.mul.ensures ∙ ap (λ t. K.times t x.1) c.pow.ensures) in (
      length-set xs (x.0 % n) y ∙ len,
      reduced_more K g.met.F.Field.field_laws n c.args.constant c.args.terms.now c.loop-i.i x xs y c.requires len c.loop-i-test.true c.index-terms-i.is is c.loop-i.invariant.1,
    )

pub returns-clause-remainder : goal.returns-clause-remainder
returns-clause-remainder g c =
    reduced_all g.F.Field.field g.met.F.Field.field_laws c.args.n c.args.constant c.args.terms.now c.loop-i.i c.loop-i.reduced.items c.requires c.loop-i.invariant.0
    (let t = c.loop-i-test.false in omega arith) c.loop-i.invariant.1
