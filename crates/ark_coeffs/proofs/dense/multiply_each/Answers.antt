use Rattle.std.proofs.Common.{◌≡◌, ◌<◌, length, sym, ap, ap₂, ◌∙◌, arith}
use Rattle.std.proofs.lemmas.List.{get_or_read}
use Rattle.ark_math.specs.Univariate.{of_list}
use Rattle.ark_math.proofs.Algebra.Powers.{times_zero}
use Rattle.ark_math_polynomials.proofs.Polynomials.UnivariateLists.{of_list-past}
use Rattle.ark_math_polynomials.proofs.Polynomials.UnivariateLoops.{zipped-set, zipped-end}
use Rattle.ark_coeffs.proofs.dense.multiply_each.Goals as goal

pub loop-i-preserved : goal.loop-i-preserved
loop-i-preserved g c =
    let K = g.F.Field.field in
    let i = c.loop-i.i in
    let in_items : i < length c.loop-i.items = omega arith in
    let left : c.index-items-i.result ≡ of_list K c.loop-i.items i = get_or_read c.loop-i.items i c.index-items-i.result in_items c.index-items-i.is K.zero in
    let right : c.index-other-i.result ≡ of_list K c.args.other.now i = get_or_read c.args.other.now i c.index-other-i.result c.loop-i-test.true c.index-other-i.is K.zero in
    zipped-set K K.times (of_list K c.args.items.now) (of_list K c.args.other.now) i c.loop-i.items c.mul_assign.new.self in_items c.loop-i.invariant
    (g.met.F.Field.mul_assign_law _ _ _ c.mul_assign.ensures.after ∙ ap₂ K.times (sym c.index-items-i.is ∙ left) right)

pub returns : goal.returns
returns g c i =
    let K = g.F.Field.field in
    let a = of_list K c.args.items.now in
    let b = of_list K c.args.other.now in
    ap (λ t. t i)
    (c.loop-i.invariant
    ∙ zipped-end K K.times c.loop-i.i a b
    (λ k h.
    ap (K.times (a k)) (of_list-past K c.args.other.now k (omega arith))
    ∙ times_zero K g.met.F.Field.field_laws (a k)
    ∙ sym (of_list-past K c.args.items.now k (omega arith))))
