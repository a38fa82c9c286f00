use Rattle.std.proofs.Common.{◌≡◌, ◌-◌, ◌+◌, ◌<◌, ◌≤◌, length, sym, ap, ap₂, subst, ◌∙◌, arith}
use Rattle.std.proofs.lemmas.List.{get_or_read}
use Rattle.ark_math.specs.Univariate.{of_list}
use Rattle.ark_math_polynomials.proofs.Polynomials.Binomials.{IsCarried, carried-none, carried-set, carried_list}
use Rattle.ark_coeffs.proofs.dense.divide_by_binomial.Goals as goal

pub loop-i-init : goal.loop-i-init
loop-i-init g c = carried-none g.F.Field.field g.met.F.Field.field_laws c.args.n c.args.constant c.args.coeffs.now

pub loop-i-preserved : goal.loop-i-preserved
loop-i-preserved g c =
    let K = g.F.Field.field in
    let xs = c.loop-i.coeffs in
    let n = c.args.n in
    let i = c.loop-i.i - 1 in
    let past : n ≤ i = let t = c.loop-i-test.true in omega arith in
    let inside : i < length xs = let t = c.loop-i-test.true in omega arith in
    let high : c.index-coeffs-i.result ≡ of_list K xs i = get_or_read xs i c.index-coeffs-i.result inside c.index-coeffs-i.is K.zero in
    let low : c.index-coeffs-i-in-loop-i.result ≡ of_list K xs (i - n) = get_or_read xs (i - n) c.index-coeffs-i-in-loop-i.result (omega arith) c.index-coeffs-i-in-loop-i.is K.zero in
    let is : c.add_assign.new.self ≡ K.plus (of_list K xs (i - n)) (K.times c.args.constant (of_list K xs i)) =
    g.met.F.Field.add_assign_law _ _ _ c.add_assign.ensures.after
    ∙ ap₂ K.plus (sym c.index-coeffs-i-in-loop-i.is ∙ low) (g.met.F.Field.mul_law _ _ _ c.mul-carried.ensures ∙ ap (K.times c.args.constant) high) in
    let one_more : c.loop-i.i ≡ i + 1 = let t = c.loop-i-test.true in omega arith in
    carried-set K g.met.F.Field.field_laws n c.args.constant i (of_list K c.args.coeffs.now) xs c.add_assign.new.self c.requires past inside is
    (subst (λ k. IsCarried K n c.args.constant k (of_list K c.args.coeffs.now) (of_list K xs)) one_more c.loop-i.invariant)

pub returns : goal.returns
returns g c =
    carried_list g.F.Field.field g.met.F.Field.field_laws c.args.n c.args.constant c.loop-i.i (of_list g.F.Field.field c.args.coeffs.now) c.loop-i.coeffs
    (let t = c.loop-i-test.false in omega arith) c.loop-i.invariant
