use Rattle.std.proofs.Common.{◌≡◌, ◌<◌, ◌+◌, length, sym, ap, ap₂, ◌∙◌, arith}
use Rattle.std.proofs.lemmas.List.{get_or_read}
use Rattle.ark_math.specs.Field.{minus}
use Rattle.ark_math.specs.Univariate.{of_list, difference, monomial, product}
use Rattle.ark_quotients.proofs.LongDivision.{subtracted-none, subtracted-as_sum, subtracted-more}
use Rattle.ark_math_polynomials.proofs.Polynomials.UnivariateLists.{of_list-past}
use Rattle.ark_math_polynomials.proofs.Polynomials.UnivariateLoops.{cut, cut-none, cut-more, cut-all}
use Rattle.ark_quotients.proofs.division.subtract_list.Goals as goal

pub loop-i-init : goal.loop-i-init
loop-i-init g c =
    let K = g.F.Field.field in
    let a = of_list K c.args.coeffs.now in
    let m = monomial K c.args.places c.args.factor in
    subtracted-none K g.met.F.Field.field_laws a c.args.places c.args.factor
    ∙ sym (ap (λ e. difference K a (product K m e)) (cut-none K (of_list K c.args.other.now)))

pub loop-i-preserved : goal.loop-i-preserved
loop-i-preserved g c =
    let K = g.F.Field.field in
    let N = g.met.F.Field.field_laws in
    let i = c.loop-i.i in
    let xs = c.loop-i.coeffs in
    let a = of_list K c.args.coeffs.now in
    let b = of_list K c.args.other.now in
    let s = c.args.places in
    let f = c.args.factor in
    let inside : s + i < length xs = omega arith in
    let old : c.index-coeffs-places.result ≡ of_list K xs (s + i) = get_or_read xs (s + i) c.index-coeffs-places.result inside c.index-coeffs-places.is K.zero in
    let right : c.index-other-i.result ≡ b i = get_or_read c.args.other.now i c.index-other-i.result c.loop-i-test.true c.index-other-i.is K.zero in
    let is : c.add_assign.new.self ≡ minus K (of_list K xs (s + i)) (K.times f (b i)) =
    g.met.F.Field.add_assign_law _ _ _ c.add_assign.ensures.after
    ∙ ap₂ K.plus (sym c.index-coeffs-places.is ∙ old) (g.met.F.Field.mul_law _ _ _ c.mul.ensures ∙ ap₂ K.times (g.met.F.Field.neg_law _ _ c.neg-negated.ensures) right)
    ∙ subtracted-as_sum K N (of_list K xs (s + i)) f (b i) in
    subtracted-more K N a (cut K i b) s i f (b i) c.add_assign.new.self xs inside is c.loop-i.invariant
    ∙ sym (ap (λ e. difference K a (product K (monomial K s f) e)) (cut-more K N i b))

pub returns : goal.returns
returns g c =
    let K = g.F.Field.field in
    let b = of_list K c.args.other.now in
    c.loop-i.invariant
    ∙ ap (λ e. difference K (of_list K c.args.coeffs.now) (product K (monomial K c.args.places c.args.factor) e))
    (cut-all K c.loop-i.i b (λ k h. of_list-past K c.args.other.now k (omega arith)))
