use Rattle.std.proofs.Common.{◌≡◌, ◌<◌, length, sym, ap, ◌∙◌, arith}
use Rattle.std.proofs.lemmas.List.{get_or_read}
use Rattle.ark_math.specs.Univariate.{of_list}
use Rattle.ark_math.proofs.Algebra.Powers.{times_zero}
use Rattle.ark_math_polynomials.proofs.Polynomials.UnivariateLists.{of_list-past}
use Rattle.ark_math_polynomials.proofs.Polynomials.UnivariateLoops.{zipped-set, zipped-end}
use Rattle.ark_coeffs.proofs.dense.scale_each.Goals as goal

pub loop-i-preserved : goal.loop-i-preserved
loop-i-preserved g c =
    let K = g.F.Field.field in
    let i = c.loop-i.i in
    let in_coeffs : i < length c.loop-i.coeffs = omega arith in
    let left : c.index-coeffs-i.result ≡ of_list K c.loop-i.coeffs i = get_or_read c.loop-i.coeffs i c.index-coeffs-i.result in_coeffs c.index-coeffs-i.is K.zero in
    let a = of_list K c.args.coeffs.now in
    zipped-set K (λ x _. K.times c.args.factor x) a a i c.loop-i.coeffs c.mul_assign.new.self in_coeffs c.loop-i.invariant
    (g.met.F.Field.mul_assign_law _ _ _ c.mul_assign.ensures.after
    ∙ g.met.F.Field.field_laws.times_comm _ _
    ∙ ap (K.times c.args.factor) (sym c.index-coeffs-i.is ∙ left))

pub returns : goal.returns
returns g c =
    let K = g.F.Field.field in
    let a = of_list K c.args.coeffs.now in
    c.loop-i.invariant
    ∙ zipped-end K (λ x _. K.times c.args.factor x) c.loop-i.i a a
    (λ k h.
    let past = of_list-past K c.args.coeffs.now k (omega arith) in
    ap (K.times c.args.factor) past ∙ times_zero K g.met.F.Field.field_laws c.args.factor ∙ sym past)
