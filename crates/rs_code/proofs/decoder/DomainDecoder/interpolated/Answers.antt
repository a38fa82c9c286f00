use Rattle.std.proofs.Common.{◌≡◌, ◌+◌, ◌-◌, ◌*◌, ◌≤◌, ℕ, List, Err, length, map, take, drop, subst, ap, sym, refl, ◌∙◌, arith, true≢false}
use Rattle.std.proofs.lemmas.List.{get_or_past, length-map}
use Rattle.ark_math.specs.Module.{item}
use Rattle.ark_math.specs.Transform.{transform, IsInverse, IsOnlyInverse}
use Rattle.ark_math.proofs.Lists.Lists.{written_back, tail}
use Rattle.ark_math_domains.proofs.Domains.LawfulDomains.{lawful_domain, order}
use Rattle.rs_code.specs.Codeword.{AgreesElsewhere, IsCodeword, mark_count}
use Rattle.rs_code.specs.Cost.{GrowsWithin}
use Rattle.rs_code.specs.Locator.{by_factors, lost}
use Rattle.rs_code.specs.Refusals.{RefusesRightly}
use Rattle.rs_code.specs.declared.error.RsError.TheVariants.{NoCodeword}
use Rattle.rs_code.proofs.Places.{zeros_from, zeros_dropped}
use Rattle.rs_code.proofs.Refused.{refused_values}
use Rattle.rs_code.proofs.Restored.{codeword-from_rest, interpolated-items, interpolated-rest, weighed_by}
use Rattle.rs_code.proofs.Spent.{none_within, nothing_within, inverse_within, scalings_within, within_more}
use Rattle.rs_code.proofs.decoder.DomainDecoder.interpolated.Goals as goal

pub returns-then-word-size-clause-cost : goal.returns-then-word-size-clause-cost
returns-then-word-size-clause-cost g c =
    let s = g.F.FftField.adicity in
    let d = g.D.EvaluationDomain.domain c.self.inside.domain in
    let w = c.args.work.now in
    subst (λ r. GrowsWithin s r.code.domain 1 (2 * r.code.domain.size) w w) c.self.view_is
    (nothing_within s g.met.F.FftField.roots_law.base d c.self.invariant.code.lawful.size_of 1 (2 * d.size) w)

pub returns-in_err-values-clause-cost : goal.returns-in_err-values-clause-cost
returns-in_err-values-clause-cost g c =
    let s = g.F.FftField.adicity in
    let d = g.D.EvaluationDomain.domain c.self.inside.domain in
    let w = c.args.work.now in
    subst (λ r. GrowsWithin s r.code.domain 1 (2 * r.code.domain.size) w w) c.self.view_is
    (nothing_within s g.met.F.FftField.roots_law.base d c.self.invariant.code.lawful.size_of 1 (2 * d.size) w)

pub returns-in_err-ifft_counted-clause-cost : goal.returns-in_err-ifft_counted-clause-cost
returns-in_err-ifft_counted-clause-cost g c =
    let s = g.F.FftField.adicity in
    let base = g.met.F.FftField.roots_law.base in
    let d = g.D.EvaluationDomain.domain c.self.inside.domain in
    let w = c.args.work.now in
    let e = c.weigh.ensures in
    let marks : length c.deref.result.now ≡ d.size = ap length c.deref.ensures.value ∙ c.self.invariant.len in
    let first = scalings_within s base d 0 0 d.size w w c.weigh.new.work (none_within s base d c.self.invariant.code.lawful.size_of w) e.butterflies e.steps (omega (arith, e.products, marks)) in
    subst (λ r. GrowsWithin s r.code.domain 1 (2 * r.code.domain.size) w c.ifft_counted.new.work) c.self.view_is
    (subst (λ v. GrowsWithin s d 1 (2 * d.size) w v) (sym c.in_err-ifft_counted.ensures.uncounted)
    (within_more s base d 0 1 _ (2 * d.size) w _ first (omega arith) (omega arith)))

pub returns-then-not-are_zeros-clause-refused : goal.returns-then-not-are_zeros-clause-refused
returns-then-not-are_zeros-clause-refused g c =
    let K = g.F.Field.field in
    let N = g.met.F.Field.field_laws in
    let V = g.T.Summand.group in
    let m = g.T.Summand.meaning in
    let d = g.D.EvaluationDomain.domain c.self.inside.domain in
    let k = c.self.inside.k in
    let marks = c.self.inside.erased.items in
    let factors = c.self.inside.factors.items in
    let code = c.self.invariant.code in
    let y = map m c.args.word.now in
    let word : length c.args.word.now ≡ d.size = omega (arith, c.if-word-size.false, c.size.ensures) in
    let places : length c.deref.result.now ≡ d.size = ap length c.deref.ensures.value ∙ c.self.invariant.len in
    let copied : c.as_mut_slice.result.now ≡ c.args.word.now = c.as_mut_slice.ensures.value ∙ c.in_ok-values.ensures.items in
    let first : length c.weigh.new.values ≡ d.size = omega (arith, c.weigh.auto.values, ap length copied, word) in
    let v = map m c.weigh.new.values in
    let u = map m c.ifft_counted.new.evals.items in
    let back = written_back c.weigh.new.values _ _ (omega (arith, c.weigh.auto.values, c.as_mut_slice.ensures.len)) in
    let weighing = weighed_by K V m marks _ factors _ c.args.word.now _ c.weigh.new.values d.size c.deref.ensures.value c.deref-2.ensures.value copied places c.weigh.ensures.values in
    let only : IsOnlyInverse K V d v u = subst (λ x. IsOnlyInverse K V d (map m x) u) back c.in_ok-ifft_counted.ensures.only in
    let end : c.product_len.result ≡ k + mark_count marks =
    c.product_len.ensures.len ∙ sym (ap (λ r. r.code.k + mark_count r.erased) c.self.view_is) in
    let second : length u ≡ d.size = c.in_ok-ifft_counted.ensures.inverse.size in
    let rest : (other : List g.T.Summand.Meaning) → IsCodeword K V d k other → AgreesElsewhere V marks y other → (i : ℕ) → k + mark_count marks ≤ i → item V u i ≡ V.zero =
    interpolated-rest N g.met.T.Summand.module_laws d (order (lawful_domain N g.met.F.FftField.roots_law code.lawful)) code.lawful.offset_not_zero marks k c.self.invariant.len c.self.invariant.few
    factors y v u c.self.invariant.factors_are (length-map c.weigh.new.values m ∙ first) weighing only in
    let some : ((i : ℕ) → k + mark_count marks ≤ i → item V u i ≡ V.zero) → ⊥ = λ none.
    let read : (i : ℕ) → c.product_len.result ≤ i → item V (map m c.deref-3.result.now) i ≡ V.zero = λ i l.
    ap (λ x. item V (map m x) i) c.deref-3.ensures.value ∙ none i (omega (arith, l, end)) in
    let all : (i : ℕ) → item V (map m (take (length c.deref-3.result.now - c.product_len.result) (drop c.product_len.result c.deref-3.result.now))) i ≡ V.zero =
    subst (λ x. (i : ℕ) → item V (map m x) i ≡ V.zero) (sym (tail c.deref-3.result.now c.product_len.result)) (zeros_dropped m V.zero c.deref-3.result.now c.product_len.result read) in
    true≢false (sym (c.are_zeros.ensures.1 all) ∙ c.if-not-are_zeros.true) in
    subst (λ r. RefusesRightly K V r.code (length c.args.word.now) (mark_count r.erased) (AgreesElsewhere V r.erased y) (Err NoCodeword)) c.self.view_is
    (refused_values K V _ (record { domain = d; k = k }) (length c.args.word.now) (mark_count marks) (AgreesElsewhere V marks y) refl word c.self.invariant.few
    (λ full. some (λ i l. get_or_past u i V.zero (omega (arith, l, full, second))))
    (λ other is agrees. some (rest other is agrees)))

pub returns-then-not-are_zeros-clause-cost : goal.returns-then-not-are_zeros-clause-cost
returns-then-not-are_zeros-clause-cost g c =
    let s = g.F.FftField.adicity in
    let base = g.met.F.FftField.roots_law.base in
    let d = g.D.EvaluationDomain.domain c.self.inside.domain in
    let w = c.args.work.now in
    let e = c.weigh.ensures in
    let marks : length c.deref.result.now ≡ d.size = ap length c.deref.ensures.value ∙ c.self.invariant.len in
    let word : length c.args.word.now ≡ d.size = omega (arith, c.if-word-size.false, c.size.ensures) in
    let first : length c.weigh.new.values ≡ d.size = omega (arith, c.weigh.auto.values, ap length c.as_mut_slice.ensures.value, ap length c.in_ok-values.ensures.items, word) in
    let back = written_back c.weigh.new.values _ _ (omega (arith, c.weigh.auto.values, c.as_mut_slice.ensures.len)) in
    let weighing = scalings_within s base d 0 0 d.size w w c.weigh.new.work (none_within s base d c.self.invariant.code.lawful.size_of w) e.butterflies e.steps (omega (arith, e.products, marks)) in
    let interpolating = inverse_within s base d 0 _ _ w c.weigh.new.work c.ifft_counted.new.work weighing (ap length back ∙ first) c.in_ok-ifft_counted.ensures.cost in
    subst (λ r. GrowsWithin s r.code.domain 1 (2 * r.code.domain.size) w c.ifft_counted.new.work) c.self.view_is
    (within_more s base d 1 1 _ (2 * d.size) w _ interpolating (omega arith) (omega arith))

pub returns-clause-cost : goal.returns-clause-cost
returns-clause-cost g c =
    let s = g.F.FftField.adicity in
    let base = g.met.F.FftField.roots_law.base in
    let d = g.D.EvaluationDomain.domain c.self.inside.domain in
    let w = c.args.work.now in
    let e = c.weigh.ensures in
    let marks : length c.deref.result.now ≡ d.size = ap length c.deref.ensures.value ∙ c.self.invariant.len in
    let word : length c.args.word.now ≡ d.size = omega (arith, c.if-word-size.false, c.size.ensures) in
    let first : length c.weigh.new.values ≡ d.size = omega (arith, c.weigh.auto.values, ap length c.as_mut_slice.ensures.value, ap length c.in_ok-values.ensures.items, word) in
    let back = written_back c.weigh.new.values _ _ (omega (arith, c.weigh.auto.values, c.as_mut_slice.ensures.len)) in
    let weighing = scalings_within s base d 0 0 d.size w w c.weigh.new.work (none_within s base d c.self.invariant.code.lawful.size_of w) e.butterflies e.steps (omega (arith, e.products, marks)) in
    let interpolating = inverse_within s base d 0 _ _ w c.weigh.new.work c.ifft_counted.new.work weighing (ap length back ∙ first) c.in_ok-ifft_counted.ensures.cost in
    subst (λ r. GrowsWithin s r.code.domain 1 (2 * r.code.domain.size) w c.ifft_counted.new.work) c.self.view_is
    (within_more s base d 1 1 _ (2 * d.size) w _ interpolating (omega arith) (omega arith))

pub returns-clause-message : goal.returns-clause-message
returns-clause-message g c =
    let K = g.F.Field.field in
    let N = g.met.F.Field.field_laws in
    let V = g.T.Summand.group in
    let m = g.T.Summand.meaning in
    let d = g.D.EvaluationDomain.domain c.self.inside.domain in
    let k = c.self.inside.k in
    let marks = c.self.inside.erased.items in
    let factors = c.self.inside.factors.items in
    let code = c.self.invariant.code in
    let y = map m c.args.word.now in
    let word : length c.args.word.now ≡ d.size = omega (arith, c.if-word-size.false, c.size.ensures) in
    let places : length c.deref.result.now ≡ d.size = ap length c.deref.ensures.value ∙ c.self.invariant.len in
    let copied : c.as_mut_slice.result.now ≡ c.args.word.now = c.as_mut_slice.ensures.value ∙ c.in_ok-values.ensures.items in
    let first : length c.weigh.new.values ≡ d.size = omega (arith, c.weigh.auto.values, ap length copied, word) in
    let v = map m c.weigh.new.values in
    let u = map m c.ifft_counted.new.evals.items in
    let back = written_back c.weigh.new.values _ _ (omega (arith, c.weigh.auto.values, c.as_mut_slice.ensures.len)) in
    let weighing = weighed_by K V m marks _ factors _ c.args.word.now _ c.weigh.new.values d.size c.deref.ensures.value c.deref-2.ensures.value copied places c.weigh.ensures.values in
    let end : c.product_len.result ≡ k + mark_count marks =
    c.product_len.ensures.len ∙ sym (ap (λ r. r.code.k + mark_count r.erased) c.self.view_is) in
    let inverse : IsInverse K V d v u = subst (λ x. IsInverse K V d (map m x) u) back c.in_ok-ifft_counted.ensures.inverse in
    let read : (i : ℕ) → c.product_len.result ≤ i → item V (map m c.deref-3.result.now) i ≡ V.zero =
    zeros_from m V.zero c.deref-3.result.now c.product_len.result (subst (λ x. (i : ℕ) → item V (map m x) i ≡ V.zero) (tail c.deref-3.result.now c.product_len.result) (c.are_zeros.ensures.0 c.if-not-are_zeros.false)) in
    let rest : (i : ℕ) → k + mark_count marks ≤ i → item V u i ≡ V.zero = λ i l.
    ap (λ x. item V (map m x) i) (sym c.deref-3.ensures.value) ∙ read i (omega (arith, l, end)) in
    let found = codeword-from_rest N g.met.T.Summand.module_laws d (order (lawful_domain N g.met.F.FftField.roots_law code.lawful)) code.lawful.offset_not_zero marks k c.self.invariant.len c.self.invariant.few
    factors y v u c.self.invariant.factors_are (length-map c.weigh.new.values m ∙ first) weighing inverse rest in
    let message = found.1.0 in (
      message,
      subst (λ r. length message ≤ r.code.k) c.self.view_is found.1.1,
      subst (λ r. AgreesElsewhere V r.erased y (transform K V r.code.domain message)) c.self.view_is (subst (AgreesElsewhere V marks y) found.1.2 found.2),
    )

pub returns-clause-product : goal.returns-clause-product
returns-clause-product g c = λ message short agrees i.
    let K = g.F.Field.field in
    let N = g.met.F.Field.field_laws in
    let V = g.T.Summand.group in
    let m = g.T.Summand.meaning in
    let d = g.D.EvaluationDomain.domain c.self.inside.domain in
    let k = c.self.inside.k in
    let marks = c.self.inside.erased.items in
    let factors = c.self.inside.factors.items in
    let code = c.self.invariant.code in
    let y = map m c.args.word.now in
    let word : length c.args.word.now ≡ d.size = omega (arith, c.if-word-size.false, c.size.ensures) in
    let places : length c.deref.result.now ≡ d.size = ap length c.deref.ensures.value ∙ c.self.invariant.len in
    let copied : c.as_mut_slice.result.now ≡ c.args.word.now = c.as_mut_slice.ensures.value ∙ c.in_ok-values.ensures.items in
    let first : length c.weigh.new.values ≡ d.size = omega (arith, c.weigh.auto.values, ap length copied, word) in
    let v = map m c.weigh.new.values in
    let u = map m c.ifft_counted.new.evals.items in
    let back = written_back c.weigh.new.values _ _ (omega (arith, c.weigh.auto.values, c.as_mut_slice.ensures.len)) in
    let weighing = weighed_by K V m marks _ factors _ c.args.word.now _ c.weigh.new.values d.size c.deref.ensures.value c.deref-2.ensures.value copied places c.weigh.ensures.values in
    let only : IsOnlyInverse K V d v u = subst (λ x. IsOnlyInverse K V d (map m x) u) back c.in_ok-ifft_counted.ensures.only in
    interpolated-items N g.met.T.Summand.module_laws d (order (lawful_domain N g.met.F.FftField.roots_law code.lawful)) code.lawful.offset_not_zero marks k c.self.invariant.len c.self.invariant.few
    factors y v u c.self.invariant.factors_are (length-map c.weigh.new.values m ∙ first) weighing only message
    (subst (λ r. length message ≤ r.code.k) (sym c.self.view_is) short)
    (subst (λ r. AgreesElsewhere V r.erased y (transform K V r.code.domain message)) (sym c.self.view_is) agrees) i
    ∙ ap (λ r. by_factors K V (lost K r.code.domain r.erased) (item V message) i) c.self.view_is

pub returns-clause-len : goal.returns-clause-len
returns-clause-len g c =
    let m = g.T.Summand.meaning in
    sym (length-map c.ifft_counted.new.evals.items m) ∙ c.in_ok-ifft_counted.ensures.inverse.size ∙ ap (λ r. r.code.domain.size) c.self.view_is
