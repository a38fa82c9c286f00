use Rattle.std.proofs.Common.{◌≡◌, ◌≤◌, length, subst, ap, sym, ◌∙◌, arith}
use Rattle.ark_math.specs.Module.{itself}
use Rattle.ark_math.specs.Univariate.{of_list}
use Rattle.ark_math_domains.specs.Points.{AreValues}
use Rattle.ark_math.specs.Field.{IsPlaceQuotient}
use Rattle.ark_math.proofs.Lists.Lists.{written_back}
use Rattle.ark_math_domains.proofs.Callers.Transforms.{values_of_fft}
use Rattle.ark_math_domains.proofs.Domains.LawfulDomains.{lawful_domain, order}
use Rattle.ark_math_polynomials.specs.Nodes.{nodes}
use Rattle.rs_code.specs.Locator.{AreFactors, euler, lost}
use Rattle.rs_code.proofs.Lost.{lost-length}
use Rattle.rs_code.proofs.Sizes.{nodes_length}
use Rattle.rs_code.proofs.ChosenFactors.{chosen_factors, own_exponents}
use Rattle.rs_code.proofs.locator.factors_by_derivative.Goals as goal

pub returns-clause-factors : goal.returns-clause-factors
returns-clause-factors g c =
    let K = g.F.Field.field in
    let N = g.met.F.Field.field_laws in
    let V = g.F.DomainCoeff.group in
    let I = g.met.F.FftField.itself_law in
    let d = g.D.EvaluationDomain.domain c.args.domain in
    let lawful = g.met.D.EvaluationDomain.lawful c.args.domain in
    let marks = c.args.erased.now in
    let rs = lost K d marks in
    let coeffs = c.coeffs.result.now in
    let roots : c.deref.result.now ≡ rs = c.deref.ensures.value ∙ c.in_ok-roots.ensures in
    let polynomial : of_list K coeffs ≡ nodes K rs = ap (of_list K) c.coeffs.ensures.same ∙ c.in_ok-polynomial.ensures.product ∙ ap (nodes K) roots in
    let same : c.coeffs-2.result.now ≡ coeffs = c.coeffs-2.ensures.same ∙ sym c.coeffs.ensures.same in
    let short : length coeffs ≤ d.size = omega (arith, nodes_length K N rs coeffs c.coeffs.ensures.trimmed polynomial, lost-length K d marks, c.requires.some_kept) in
    let values : AreValues K d (nodes K rs) c.in_ok-factors.factors.items =
    subst (λ a. AreValues K d a c.in_ok-factors.factors.items) polynomial (values_of_fft K V I N d coeffs c.in_ok-factors.factors.items short c.in_ok-factors.ensures.transform) in
    let made = c.scale_by_exponents.new.coeffs in
    let copied : c.as_mut_slice.result.now ≡ coeffs = c.as_mut_slice.ensures.value ∙ c.in_ok-derivatives.ensures.items ∙ same in
    let kept : length made ≡ length c.as_mut_slice.result.now = c.scale_by_exponents.auto.coeffs in
    let scaled : c.deref-2.result.now ≡ made = c.deref-2.ensures.value ∙ written_back made _ _ (omega (arith, kept, c.as_mut_slice.ensures.len)) in
    let exponents : of_list K c.deref-2.result.now ≡ euler K (itself K) (nodes K rs) =
    ap (of_list K) scaled
    ∙ own_exponents N I c.as_mut_slice.result.now made kept c.scale_by_exponents.ensures.coefficients
    ∙ ap (λ a. euler K (itself K) (of_list K a)) copied
    ∙ ap (euler K (itself K)) polynomial in
    let room : length c.deref-2.result.now ≤ d.size = omega (arith, short, ap length scaled, kept, ap length copied) in
    let derivatives : AreValues K d (euler K (itself K) (nodes K rs)) c.in_ok-inverses.inverses.items =
    subst (λ a. AreValues K d a c.in_ok-inverses.inverses.items) exponents (values_of_fft K V I N d c.deref-2.result.now c.in_ok-inverses.inverses.items room c.in_ok-inverses.ensures.transform) in
    let inverses : c.deref-3.result.now ≡ c.batch_inversion.new.items =
    c.deref-3.ensures.value ∙ written_back c.batch_inversion.new.items _ _ (omega (arith, c.batch_inversion.auto.items, c.as_mut_slice-2.ensures.len)) in
    let listed = chosen_factors K N d (order (lawful_domain N g.met.F.FftField.roots_law lawful)) lawful.offset_not_zero marks c.requires.len
    c.as_mut_slice-3.result.now c.as_mut_slice-2.result.now c.deref-3.result.now c.choose.new.items
    (subst (AreValues K d (nodes K rs)) (sym c.as_mut_slice-3.ensures.value) values)
    (subst (AreValues K d (euler K (itself K) (nodes K rs))) (sym c.as_mut_slice-2.ensures.value) derivatives)
    (λ i l. subst (λ v. IsPlaceQuotient K K.one (of_list K c.as_mut_slice-2.result.now i) (of_list K v i)) (sym inverses) (c.in_ok-batch_inversion.ensures.inverses i l))
    (omega (arith, c.choose.auto.items, c.as_mut_slice-3.ensures.len, ap length c.as_mut_slice-3.ensures.value, c.in_ok-factors.ensures.len))
    (λ i l. c.choose.ensures i (omega (arith, l, ap length c.as_mut_slice-3.ensures.value, c.in_ok-factors.ensures.len))) in
    subst (AreFactors K d marks) (sym (written_back c.choose.new.items _ _ (omega (arith, c.choose.auto.items, c.as_mut_slice-3.ensures.len)))) listed
