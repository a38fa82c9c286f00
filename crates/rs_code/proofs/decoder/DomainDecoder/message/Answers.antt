use Rattle.std.proofs.Common.{◌≡◌, ℕ, ◌*◌, ◌<◌, ◌≤◌, List, length, map, take, get_or, true, subst, ap, ap₂, sym, ◌∙◌, arith}
use Rattle.std.proofs.lemmas.List.{length-map, take-map, get_or-take}
use Rattle.ark_math.specs.Field.{power}
use Rattle.ark_math.specs.Module.{item}
use Rattle.ark_math.specs.Univariate.{of_list}
use Rattle.ark_math.specs.Domain.{element}
use Rattle.ark_math.specs.Transform.{transform, fit, IsOnlyInverse}
use Rattle.ark_math.proofs.Lists.Lists.{written_back}
use Rattle.ark_math_domains.proofs.Callers.Transforms.{transform-length}
use Rattle.ark_math_domains.proofs.Domains.LawfulDomains.{lawful_domain, order, some_size}
use Rattle.rs_code.specs.Codeword.{AgreesElsewhere}
use Rattle.rs_code.specs.Locator.{by_factors, euler, filled, lost}
use Rattle.rs_code.proofs.Locators.{value, value-same}
use Rattle.rs_code.proofs.Messages.{message-is_first, transform-fitted}
use Rattle.rs_code.proofs.Parts.{element_root, part_fits, some_stride, restored_part}
use Rattle.rs_code.proofs.Restored.{transform-item}
use Rattle.rs_code.proofs.decoder.DomainDecoder.message.Goals as goal

pub fill_spaced-requires-clause-len : goal.fill_spaced-requires-clause-len
fill_spaced-requires-clause-len g c =
    let m = g.T.DomainCoeff.meaning in
    let e = g.D.EvaluationDomain.domain c.self.inside.part in
    let transformed : map m c.as_mut_slice-3.result.now ≡ transform g.F.Field.field g.T.DomainCoeff.group e (map m c.truncate.new.self.items) = ap (map m) c.as_mut_slice-3.ensures.value ∙ c.in_ok-fft_in_place.ensures.transform in
    let wide : length c.as_mut_slice-3.result.now ≡ e.size = sym (length-map c.as_mut_slice-3.result.now m) ∙ ap length transformed ∙ transform-length g.F.Field.field g.T.DomainCoeff.group e (map m c.truncate.new.self.items) in
    ap length c.deref.ensures.value ∙ c.self.invariant.len ∙ c.self.invariant.spaced.size ∙ ap (λ n. n * c.self.inside.stride) (sym wide)

pub returns-clause-only : goal.returns-clause-only
returns-clause-only g c = λ other short agrees.
    let K = g.F.Field.field in
    let N = g.met.F.Field.field_laws in
    let V = g.T.DomainCoeff.group in
    let L = g.met.T.DomainCoeff.module_laws in
    let m = g.T.DomainCoeff.meaning in
    let d = g.D.EvaluationDomain.domain c.self.inside.domain in
    let e = g.D.EvaluationDomain.domain c.self.inside.part in
    let t = c.self.inside.stride in
    let k = c.self.inside.k in
    let marks = c.self.inside.erased.items in
    let factors = c.self.inside.factors.items in
    let code = c.self.invariant.code in
    let spaced = c.self.invariant.spaced in
    let y = map m c.args.word.now in
    let whole_order = order (lawful_domain N g.met.F.FftField.roots_law code.lawful) in
    let part = lawful_domain N g.met.F.FftField.roots_law (g.met.D.EvaluationDomain.lawful c.self.inside.part) in
    let some : 0 < d.size = some_size (lawful_domain N g.met.F.FftField.roots_law code.lawful) in
    let apart : 0 < t = some_stride d.size e.size t spaced.size some in
    let less : e.size ≤ d.size = part_fits d.size e.size t spaced.size some in
    let u = map m c.in_ok-items.items.items in
    let s = map m c.scale_by_exponents.new.coeffs in
    let cut = map m c.truncate.new.self.items in
    let z = map m c.as_mut_slice-3.result.now in
    let last = map m c.fill_spaced.new.values in
    let back = map m c.ifft_in_place.new.evals.items in
    let size : length c.in_ok-items.items.items ≡ d.size = c.in_ok-items.ensures.len ∙ sym (ap (λ r. r.code.domain.size) c.self.view_is) in
    let first : length c.as_mut_slice.result.now ≡ d.size = ap length c.as_mut_slice.ensures.value ∙ size in
    let lowered_back = written_back c.scale_by_exponents.new.coeffs _ _ (omega (arith, c.scale_by_exponents.auto.coeffs, c.as_mut_slice.ensures.len)) in
    let lowering : (i : ℕ) → i < d.size → item V s i ≡ euler K V (item V u) i = λ i l.
    c.scale_by_exponents.ensures.coefficients i (omega (arith, l, first)) ∙ ap (λ x. euler K V (item V (map m x)) i) c.as_mut_slice.ensures.value in
    let read : c.as_mut_slice-2.result.now ≡ c.scale_by_exponents.new.coeffs = c.as_mut_slice-2.ensures.value ∙ lowered_back in
    let long : length c.as_mut_slice-2.result.now ≡ d.size = ap length read ∙ (let kept : length c.scale_by_exponents.new.coeffs ≡ d.size = omega (arith, c.scale_by_exponents.auto.coeffs, first) in kept) in
    let folded_back = written_back c.fold.new.coeffs _ _ (omega (arith, c.fold.auto.coeffs, c.as_mut_slice-2.ensures.len)) in
    let cut_is : cut ≡ take e.size (map m c.fold.new.coeffs) =
    ap (map m) (c.truncate.ensures.items ∙ ap (take c.size-2.result) folded_back ∙ ap (λ n. take n c.fold.new.coeffs) c.size-2.ensures) ∙ sym (take-map m e.size c.fold.new.coeffs) in
    let folding : (j : ℕ) → j < e.size → value K V e.size (item V cut) (element K e j) ≡ value K V d.size (item V s) (element K e j) = λ j l.
    value-same N L e.size (item V cut) (item V (map m c.fold.new.coeffs)) (element K e j) (λ i h. ap (λ x. item V x i) cut_is ∙ get_or-take e.size (map m c.fold.new.coeffs) i V.zero h)
    ∙ subst (λ n. (x : g.row.F.Denot) → power K x n ≡ K.one → value K V n (item V (map m c.fold.new.coeffs)) x ≡ value K V (length c.as_mut_slice-2.result.now) (item V (map m c.as_mut_slice-2.result.now)) x) c.size.ensures c.fold.ensures (element K e j)
    (element_root K N e (order part) (spaced.offset ∙ code.subgroup) j)
    ∙ ap₂ (λ n x. value K V n (item V (map m x)) (element K e j)) long read in
    let transformed : z ≡ transform K V e cut = ap (map m) c.as_mut_slice-3.ensures.value ∙ c.in_ok-fft_in_place.ensures.transform in
    let wide : length c.as_mut_slice-3.result.now ≡ e.size = sym (length-map c.as_mut_slice-3.result.now m) ∙ ap length transformed ∙ transform-length K V e cut in
    let there : (j : ℕ) → j < e.size → item V z j ≡ value K V d.size (item V s) (element K e j) = λ j l.
    ap (λ x. item V x j) transformed ∙ transform-item N L e cut j l ∙ folding j l in
    let filling : (j : ℕ) → j < e.size → item V last j ≡ filled V (get_or marks (j * t) true) (of_list K factors (j * t)) (item V y (j * t)) (item V z j) = λ j l.
    c.fill_spaced.ensures j (omega (arith, l, wide))
    ∙ ap (λ x. filled V (get_or x (j * t) true) (of_list K c.deref-2.result.now (j * t)) (item V y (j * t)) (item V z j)) c.deref.ensures.value
    ∙ ap (λ x. filled V (get_or marks (j * t) true) (of_list K x (j * t)) (item V y (j * t)) (item V z j)) c.deref-2.ensures.value in
    let last_size : length last ≡ e.size = length-map c.fill_spaced.new.values m ∙ c.fill_spaced.auto.values ∙ wide in
    let filled_back = written_back c.fill_spaced.new.values _ _ (omega (arith, c.fill_spaced.auto.values, c.as_mut_slice-3.ensures.len)) in
    let only = subst (λ x. IsOnlyInverse K V e (map m x) back) filled_back c.in_ok-ifft_in_place.ensures.only in
    let back_size : length back ≡ e.size = c.in_ok-ifft_in_place.ensures.inverse.size in
    let items : map m c.truncate-2.new.self.items ≡ take k back = ap (map m) c.truncate-2.ensures.items ∙ sym (take-map m k _) in
    let same : (message : List g.T.DomainCoeff.Meaning) → length message ≤ k → AgreesElsewhere V marks y (transform K V d message) → fit V message k ≡ map m c.truncate-2.new.self.items = λ message short agrees.
    message-is_first N L e k last back message c.self.invariant.room back_size only
    (restored_part N L d whole_order code.lawful.offset_not_zero marks k c.self.invariant.len c.self.invariant.few e t apart spaced c.self.invariant.room
    factors y u s last message (item V z) c.self.invariant.factors_are short agrees
    (λ i. c.in_ok-items.ensures.product message
    (subst (λ r. length message ≤ r.code.k) c.self.view_is short)
    (subst (λ r. AgreesElsewhere V r.erased y (transform K V r.code.domain message)) c.self.view_is agrees) i
    ∙ ap (λ r. by_factors K V (lost K r.code.domain r.erased) (item V message) i) (sym c.self.view_is))
    lowering there last_size filling)
    ∙ sym items in
    ap (λ r. fit V other r.code.k) (sym c.self.view_is)
    ∙ same other
    (subst (λ r. length other ≤ r.code.k) (sym c.self.view_is) short)
    (subst (λ r. AgreesElsewhere V r.erased y (transform K V r.code.domain other)) (sym c.self.view_is) agrees)

-- the message that there is, filled with zeros, is what comes
pub returns-clause-agrees : goal.returns-clause-agrees
returns-clause-agrees g c =
    let K = g.F.Field.field in
    let V = g.T.DomainCoeff.group in
    let code = c.args.self.now.code in
    let found = c.in_ok-items.ensures.message in
    let fitted = transform-fitted g.met.F.Field.field_laws g.met.T.DomainCoeff.module_laws code.domain code.k found.0 found.1 in
    subst (AgreesElsewhere V c.args.self.now.erased (map g.T.DomainCoeff.meaning c.args.word.now))
    (sym fitted ∙ ap (transform K V code.domain) (returns-clause-only g c found.0 found.1 found.2))
    found.2
