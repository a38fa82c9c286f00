use Rattle.std.proofs.Common.{◌≡◌, ◌<◌, length, sym, ap, ap₂, ◌∙◌, arith}
use Rattle.std.proofs.lemmas.List.{get_or_read}
use Rattle.ark_math.specs.Field.{minus}
use Rattle.ark_math.specs.Univariate.{of_list}
use Rattle.ark_math.proofs.Algebra.Groups.{itself_is_module, minus_zero}
use Rattle.ark_math_polynomials.proofs.Polynomials.UnivariateLists.{of_list-past}
use Rattle.ark_math_polynomials.proofs.Polynomials.UnivariateLoops.{zipped-begin, zipped-set, zipped-end}
use Rattle.ark_coeffs.proofs.dense.subtract_each.Goals as goal

pub loop-i-init : goal.loop-i-init
loop-i-init g c = zipped-begin g.F.Field.field (minus g.F.Field.field) (of_list g.F.Field.field c.args.coeffs.now) (of_list g.F.Field.field c.args.other.now)

pub loop-i-preserved : goal.loop-i-preserved
loop-i-preserved g c =
    let K = g.F.Field.field in
    let i = c.loop-i.i in
    let in_coeffs : i < length c.loop-i.coeffs = omega arith in
    let left : c.index-coeffs-i.result ≡ of_list K c.loop-i.coeffs i = get_or_read c.loop-i.coeffs i c.index-coeffs-i.result in_coeffs c.index-coeffs-i.is K.zero in
    let right : c.index-other-i.result ≡ of_list K c.args.other.now i = get_or_read c.args.other.now i c.index-other-i.result c.loop-i-test.true c.index-other-i.is K.zero in
    zipped-set K (minus K) (of_list K c.args.coeffs.now) (of_list K c.args.other.now) i c.loop-i.coeffs c.sub_assign.new.self in_coeffs c.loop-i.invariant
    (g.met.F.Field.sub_assign_law _ _ _ c.sub_assign.ensures.after ∙ ap₂ (minus K) (sym c.index-coeffs-i.is ∙ left) right)

pub returns : goal.returns
returns g c =
    let K = g.F.Field.field in
    let a = of_list K c.args.coeffs.now in
    c.loop-i.invariant
    ∙ zipped-end K (minus K) c.loop-i.i a (of_list K c.args.other.now)
    (λ k h. ap (minus K (a k)) (of_list-past K c.args.other.now k (omega arith)) ∙ minus_zero (itself_is_module K g.met.F.Field.field_laws) (a k))
