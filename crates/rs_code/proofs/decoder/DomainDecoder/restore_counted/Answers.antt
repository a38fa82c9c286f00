use Rattle.std.proofs.Common.{◌≡◌, ◌*◌, ◌<◌, ◌≤◌, ℕ, List, true, false, length, map, get_or, subst, ap, sym, ◌∙◌, refl, arith}
use Rattle.std.proofs.lemmas.List.{length-map}
use Rattle.ark_math.specs.Module.{item}
use Rattle.ark_math.specs.Univariate.{of_list}
use Rattle.ark_math.specs.Transform.{transform}
use Rattle.ark_math.proofs.Lists.Lists.{written_back}
use Rattle.ark_math_domains.proofs.Callers.Transforms.{transform-length}
use Rattle.ark_math_domains.proofs.Domains.LawfulDomains.{lawful_domain, order}
use Rattle.rs_code.specs.Codeword.{AgreesElsewhere, IsCodeword}
use Rattle.rs_code.specs.Cost.{GrowsWithin}
use Rattle.rs_code.specs.Locator.{by_factors, euler, filled, lost}
use Rattle.rs_code.proofs.Places.{unmarked_within}
use Rattle.rs_code.proofs.Restored.{restored}
use Rattle.rs_code.proofs.Spent.{forward_within, scalings_within, within_more}
use Rattle.rs_code.proofs.decoder.DomainDecoder.restore_counted.Goals as goal

pub returns-in_err-values-clause-cost : goal.returns-in_err-values-clause-cost
returns-in_err-values-clause-cost g c =
    let s = g.F.FftField.adicity in
    let base = g.met.F.FftField.roots_law.base in
    within_more s base c.args.self.now.code.domain 1 3 (2 * c.args.self.now.code.domain.size) (5 * c.args.self.now.code.domain.size) _ _ c.interpolated.ensures.cost (omega arith) (omega arith)

pub returns-in_err-fft_counted-clause-cost : goal.returns-in_err-fft_counted-clause-cost
returns-in_err-fft_counted-clause-cost g c =
    let s = g.F.FftField.adicity in
    let base = g.met.F.FftField.roots_law.base in
    let m = g.T.Summand.meaning in
    let d = c.args.self.now.code.domain in
    let w = c.args.work.now in
    let h = c.scale_by_exponents.ensures in
    let second : length c.in_ok-values.values.items ≡ d.size = c.in_ok-values.ensures.len in
    let lowered : length c.scale_by_exponents.new.coeffs ≡ d.size = omega (arith, c.scale_by_exponents.auto.coeffs, ap length c.as_mut_slice.ensures.value, second) in
    let lowering = scalings_within s base d 1 _ d.size w c.interpolated.new.work c.scale_by_exponents.new.work c.interpolated.ensures.cost h.butterflies h.steps (omega (arith, h.products, ap length c.as_mut_slice.ensures.value, second)) in
    subst (λ v. GrowsWithin s d 3 (5 * d.size) w v) (sym c.in_err-fft_counted.ensures.uncounted)
    (within_more s base d 1 3 _ (5 * d.size) w _ lowering (omega arith) (omega arith))

pub fill-requires-clause-len : goal.fill-requires-clause-len
fill-requires-clause-len g c =
    let m = g.T.Summand.meaning in
    let d = g.D.EvaluationDomain.domain c.self.inside.domain in
    ap length c.as_mut_slice-2.ensures.value
    ∙ sym (length-map c.fft_counted.new.coeffs.items m)
    ∙ ap length c.in_ok-fft_counted.ensures.transform
    ∙ transform-length g.F.Field.field g.T.Summand.group d _
    ∙ sym (ap length c.deref.ensures.value ∙ c.self.invariant.len)

pub returns-clause-agrees : goal.returns-clause-agrees
returns-clause-agrees g c = λ i e.
    let V = g.T.Summand.group in
    let K = g.F.Field.field in
    let m = g.T.Summand.meaning in
    let marks : c.deref.result.now ≡ c.args.self.now.erased = c.deref.ensures.value ∙ ap (λ r. r.erased) c.self.view_is in
    let own : get_or c.deref.result.now i true ≡ false = ap (λ t. get_or t i true) marks ∙ e in
    ap (λ t. item V (map m t) i) (written_back c.fill.new.values _ _ (omega (arith, c.fill.auto.values, c.as_mut_slice-2.ensures.len)))
    ∙ c.fill.ensures.values i (unmarked_within c.deref.result.now i own)
    ∙ ap (λ b. filled V b (of_list K c.deref-2.result.now i) (item V (map m c.args.word.now) i) (item V (map m c.as_mut_slice-2.result.now) i)) own

pub returns-clause-only : goal.returns-clause-only
returns-clause-only g c = λ other is agrees.
    let K = g.F.Field.field in
    let N = g.met.F.Field.field_laws in
    let V = g.T.Summand.group in
    let m = g.T.Summand.meaning in
    let d = g.D.EvaluationDomain.domain c.self.inside.domain in
    let k = c.self.inside.k in
    let marks = c.self.inside.erased.items in
    let factors = c.self.inside.factors.items in
    let code = c.self.invariant.code in
    let y = map m c.args.word.now in
    let u = map m c.in_ok-values.values.items in
    let t = map m c.scale_by_exponents.new.coeffs in
    let last = map m c.fill.new.values in
    let second : length c.in_ok-values.values.items ≡ d.size = c.in_ok-values.ensures.len ∙ sym (ap (λ r. r.code.domain.size) c.self.view_is) in
    let lowered_back = written_back c.scale_by_exponents.new.coeffs _ _ (omega (arith, c.scale_by_exponents.auto.coeffs, c.as_mut_slice.ensures.len)) in
    let lowering : (i : ℕ) → i < d.size → item V t i ≡ euler K V (item V u) i = λ i l.
    c.scale_by_exponents.ensures.coefficients i (omega (arith, l, ap length c.as_mut_slice.ensures.value, second))
    ∙ ap (λ x. euler K V (item V (map m x)) i) c.as_mut_slice.ensures.value in
    let transformed : map m c.as_mut_slice-2.result.now ≡ transform K V d t =
    ap (map m) c.as_mut_slice-2.ensures.value ∙ c.in_ok-fft_counted.ensures.transform ∙ ap (λ x. transform K V d (map m x)) lowered_back in
    let whole : length last ≡ d.size =
    length-map c.fill.new.values m ∙ c.fill.auto.values ∙ sym (length-map c.as_mut_slice-2.result.now m) ∙ ap length transformed ∙ transform-length K V d t in
    let filling : (i : ℕ) → i < d.size → item V last i ≡ filled V (get_or marks i true) (of_list K factors i) (item V y i) (item V (transform K V d t) i) = λ i l.
    c.fill.ensures.values i (omega (arith, l, ap length c.deref.ensures.value, c.self.invariant.len))
    ∙ ap (λ x. filled V (get_or x i true) (of_list K c.deref-2.result.now i) (item V y i) (item V (map m c.as_mut_slice-2.result.now) i)) c.deref.ensures.value
    ∙ ap (λ x. filled V (get_or marks i true) (of_list K x i) (item V y i) (item V (map m c.as_mut_slice-2.result.now) i)) c.deref-2.ensures.value
    ∙ ap (λ x. filled V (get_or marks i true) (of_list K factors i) (item V y i) (item V x i)) transformed in
    let filled_back = written_back c.fill.new.values _ _ (omega (arith, c.fill.auto.values, c.as_mut_slice-2.ensures.len)) in
    let same : (message : List g.T.Summand.Meaning) → length message ≤ k → AgreesElsewhere V marks y (transform K V d message) → transform K V d message ≡ last = λ message short agrees.
    restored N g.met.T.Summand.module_laws d (order (lawful_domain N g.met.F.FftField.roots_law code.lawful)) code.lawful.offset_not_zero marks k c.self.invariant.len c.self.invariant.few
    factors y u t last message c.self.invariant.factors_are short agrees
    (λ i. c.in_ok-values.ensures.product message
    (subst (λ r. length message ≤ r.code.k) c.self.view_is short)
    (subst (λ r. AgreesElsewhere V r.erased y (transform K V r.code.domain message)) c.self.view_is agrees) i
    ∙ ap (λ r. by_factors K V (lost K r.code.domain r.erased) (item V message) i) (sym c.self.view_is))
    lowering whole filling in
    let own = subst (λ r. IsCodeword K V r.code.domain r.code.k other) (sym c.self.view_is) is in
    own.2
    ∙ same own.0 own.1 (subst (AgreesElsewhere V marks y) own.2 (subst (λ r. AgreesElsewhere V r.erased y other) (sym c.self.view_is) agrees))
    ∙ ap (map m) (sym filled_back)

-- the codeword that there is is what comes
pub returns-clause-codeword : goal.returns-clause-codeword
returns-clause-codeword g c =
    let found = c.in_ok-values.ensures.message in
    let codeword = transform g.F.Field.field g.T.Summand.group c.args.self.now.code.domain found.0 in
    (found.0, found.1, sym (returns-clause-only g c codeword (found.0, found.1, refl) found.2))

pub returns-clause-cost : goal.returns-clause-cost
returns-clause-cost g c =
    let s = g.F.FftField.adicity in
    let base = g.met.F.FftField.roots_law.base in
    let d = g.D.EvaluationDomain.domain c.self.inside.domain in
    let w = c.args.work.now in
    let h = c.scale_by_exponents.ensures in
    let interpolating : GrowsWithin s d 1 (2 * d.size) w c.interpolated.new.work =
    subst (λ r. GrowsWithin s r.code.domain 1 (2 * r.code.domain.size) w c.interpolated.new.work) (sym c.self.view_is) c.interpolated.ensures.cost in
    let second : length c.in_ok-values.values.items ≡ d.size = c.in_ok-values.ensures.len ∙ sym (ap (λ r. r.code.domain.size) c.self.view_is) in
    let lowered : length c.scale_by_exponents.new.coeffs ≡ d.size = omega (arith, c.scale_by_exponents.auto.coeffs, ap length c.as_mut_slice.ensures.value, second) in
    let lowering = scalings_within s base d 1 _ d.size w c.interpolated.new.work c.scale_by_exponents.new.work interpolating h.butterflies h.steps (omega (arith, h.products, ap length c.as_mut_slice.ensures.value, second)) in
    let lowered_back = written_back c.scale_by_exponents.new.coeffs _ _ (omega (arith, c.scale_by_exponents.auto.coeffs, c.as_mut_slice.ensures.len)) in
    let transforming = forward_within s base d 1 _ _ w c.scale_by_exponents.new.work c.fft_counted.new.work lowering (ap length lowered_back ∙ lowered) c.in_ok-fft_counted.ensures.cost in
    let f = c.fill.ensures in
    let filling = scalings_within s base d 2 _ d.size w c.fft_counted.new.work c.fill.new.work transforming f.butterflies f.steps (omega (arith, f.products, ap length c.deref.ensures.value, c.self.invariant.len)) in
    subst (λ r. GrowsWithin s r.code.domain 3 (5 * r.code.domain.size) w c.fill.new.work) c.self.view_is
    (within_more s base d 2 3 _ (5 * d.size) w _ filling (omega arith) (omega arith))
