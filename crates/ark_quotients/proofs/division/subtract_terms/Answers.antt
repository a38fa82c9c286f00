use Rattle.std.proofs.Common.{◌≡◌, ◌<◌, ◌+◌, length, take, sym, subst, ap, ap₂, ◌∙◌, arith}
use Rattle.std.proofs.lemmas.List.{get_or_read, take_all}
use Rattle.ark_math.specs.Field.{minus}
use Rattle.ark_math.specs.Univariate.{of_list, of_pairs, difference, monomial, product}
use Rattle.ark_quotients.proofs.LongDivision.{subtracted-none, subtracted-as_sum, subtracted-more}
use Rattle.ark_math_polynomials.proofs.Polynomials.UnivariatePairs.{of_pairs-push, take_next}
use Rattle.ark_quotients.proofs.division.subtract_terms.Goals as goal

pub loop-i-init : goal.loop-i-init
loop-i-init g c = subtracted-none g.F.Field.field g.met.F.Field.field_laws (of_list g.F.Field.field c.args.coeffs.now) c.args.places c.args.factor

pub loop-i-preserved : goal.loop-i-preserved
loop-i-preserved g c =
    let K = g.F.Field.field in
    let N = g.met.F.Field.field_laws in
    let i = c.loop-i.i in
    let xs = c.loop-i.coeffs in
    let ts = c.args.terms.now in
    let a = of_list K c.args.coeffs.now in
    let s = c.args.places in
    let f = c.args.factor in
    let t = c.index-terms-i.result in
    let within : s + t.0 < length c.args.coeffs.now = subst (λ u. s + u.0 < length c.args.coeffs.now) (sym c.index-terms-i.is) (c.requires.within i t c.loop-i-test.true) in
    let inside : s + t.0 < length xs = omega (arith, within, c.loop-i.auto.coeffs) in
    let old : c.index-coeffs-places.result ≡ of_list K xs (s + t.0) = get_or_read xs (s + t.0) c.index-coeffs-places.result inside c.index-coeffs-places.is K.zero in
    let is : c.add_assign.new.self ≡ minus K (of_list K xs (s + t.0)) (K.times f t.1) =
    g.met.F.Field.add_assign_law _ _ _ c.add_assign.ensures.after
    ∙ ap₂ K.plus (sym c.index-coeffs-places.is ∙ old) (g.met.F.Field.mul_law _ _ _ c.mul.ensures ∙ ap (λ u. K.times u t.1) (g.met.F.Field.neg_law _ _ c.neg-negated.ensures))
    ∙ subtracted-as_sum K N (of_list K xs (s + t.0)) f t.1 in
    subtracted-more K N a (of_pairs K (take i ts)) s t.0 f t.1 c.add_assign.new.self xs inside is c.loop-i.invariant
    ∙ sym (ap (λ e. difference K a (product K (monomial K s f) e)) (ap (of_pairs K) (take_next K N ts i t c.loop-i-test.true c.index-terms-i.is) ∙ of_pairs-push K N (take i ts) t))

pub returns : goal.returns
returns g c =
    let K = g.F.Field.field in
    c.loop-i.invariant
    ∙ ap (λ t. difference K (of_list K c.args.coeffs.now) (product K (monomial K c.args.places c.args.factor) (of_pairs K t)))
    (take_all c.loop-i.i c.args.terms.now (omega arith))
