use Rattle.std.proofs.Common.{◌≡◌, ◌<◌, length, refl, sym, ap, ◌∙◌, arith}
use Rattle.std.proofs.lemmas.List.{get_or_read}
use Rattle.ark_math.specs.Univariate.{of_list}
use Rattle.ark_math.proofs.Algebra.Solve.{nought, negative}
use Rattle.ark_math.proofs.Algebra.Ring.{ring1}
use Rattle.ark_math_polynomials.proofs.Polynomials.UnivariateLists.{of_list-past}
use Rattle.ark_math_polynomials.proofs.Polynomials.UnivariateLoops.{zipped-set, zipped-end}
use Rattle.ark_coeffs.proofs.dense.negate_each.Goals as goal

pub loop-i-preserved : goal.loop-i-preserved
loop-i-preserved g c =
    let K = g.F.Field.field in
    let i = c.loop-i.i in
    let inside : i < length c.loop-i.coeffs = omega arith in
    let value : c.index-coeffs-i.result ≡ of_list K c.loop-i.coeffs i = get_or_read c.loop-i.coeffs i c.index-coeffs-i.result inside c.index-coeffs-i.is K.zero in
    let a = of_list K c.args.coeffs.now in
    zipped-set K (λ x _. K.negated x) a a i c.loop-i.coeffs c.neg.result inside c.loop-i.invariant
    (g.met.F.Field.neg_law _ _ c.neg.ensures ∙ ap K.negated value)

pub returns : goal.returns
returns g c =
    let K = g.F.Field.field in
    let a = of_list K c.args.coeffs.now in
    let none : K.negated K.zero ≡ K.zero = ring1 K g.met.F.Field.field_laws (λ x. (negative nought, nought)) refl K.one in
    c.loop-i.invariant
    ∙ zipped-end K (λ x _. K.negated x) c.loop-i.i a a
    (λ k h.
    let past = of_list-past K c.args.coeffs.now k (omega arith) in
    ap K.negated past ∙ none ∙ sym past)
