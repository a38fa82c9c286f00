use Rattle.std.proofs.Common.{◌≡◌, ◌<◌, length, sym, ap, ap₂, ◌∙◌, arith}
use Rattle.std.proofs.lemmas.List.{get_or_read}
use Rattle.ark_math.specs.Univariate.{of_list}
use Rattle.ark_math.proofs.Algebra.Powers.{times_zero}
use Rattle.ark_math_polynomials.proofs.Polynomials.UnivariateLists.{of_list-past}
use Rattle.ark_math_polynomials.proofs.Polynomials.UnivariateLoops.{zipped-set, zipped-end}
use Rattle.ark_coeffs.proofs.dense.add_scaled.Goals as goal

pub loop-i-preserved : goal.loop-i-preserved
loop-i-preserved g c =
    let K = g.F.Field.field in
    let i = c.loop-i.i in
    let in_coeffs : i < length c.loop-i.coeffs = omega arith in
    let left : c.index-coeffs-i.result ≡ of_list K c.loop-i.coeffs i = get_or_read c.loop-i.coeffs i c.index-coeffs-i.result in_coeffs c.index-coeffs-i.is K.zero in
    let right : c.index-other-i.result ≡ of_list K c.args.other.now i = get_or_read c.args.other.now i c.index-other-i.result c.loop-i-test.true c.index-other-i.is K.zero in
    zipped-set K (λ x y. K.plus x (K.times c.args.factor y)) (of_list K c.args.coeffs.now) (of_list K c.args.other.now) i c.loop-i.coeffs c.add_assign.new.self in_coeffs c.loop-i.invariant
    (g.met.F.Field.add_assign_law _ _ _ c.add_assign.ensures.after
    ∙ ap₂ K.plus (sym c.index-coeffs-i.is ∙ left) (g.met.F.Field.mul_law _ _ _ c.mul.ensures ∙ ap (K.times c.args.factor) right))

pub returns : goal.returns
returns g c =
    let K = g.F.Field.field in
    let N = g.met.F.Field.field_laws in
    let a = of_list K c.args.coeffs.now in
    c.loop-i.invariant
    ∙ zipped-end K (λ x y. K.plus x (K.times c.args.factor y)) c.loop-i.i a (of_list K c.args.other.now)
    (λ k h.
    ap (λ t. K.plus (a k) (K.times c.args.factor t)) (of_list-past K c.args.other.now k (omega arith))
    ∙ ap (K.plus (a k)) (times_zero K N c.args.factor)
    ∙ N.plus_zero (a k))
