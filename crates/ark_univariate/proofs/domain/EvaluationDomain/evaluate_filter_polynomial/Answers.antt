use Rattle.std.proofs.Common.{◌≡◌, ◌≢◌, ◌∙◌, refl, sym, ap, ap₂, subst, true≢false}
use Rattle.std.proofs.lemmas.Bool.{true_from_ne_false}
use Rattle.ark_math.specs.Field.{power, natural}
use Rattle.ark_math.specs.Univariate.{IsValue}
use Rattle.ark_math.proofs.Algebra.NonZero.{times_not_zero}
use Rattle.ark_math_domains.proofs.Domains.LawfulDomains.{IsLawful, lawful_domain, scale_not_zero, filter_inside, filter_elsewhere}
use Rattle.ark_univariate.proofs.domain.EvaluationDomain.evaluate_filter_polynomial.Given as given
use Rattle.ark_univariate.proofs.domain.EvaluationDomain.evaluate_filter_polynomial.Goals as goal

lawful : (g : given.Over) (d : g.row.Self.Denot) → IsLawful g.F.Field.field g.F.FftField.adicity g.F.FftField.root (g.Self.EvaluationDomain.domain d)
lawful g d = lawful_domain g.met.F.Field.field_laws g.met.F.FftField.roots_law (g.met.Self.EvaluationDomain.lawful d)

pub returns-then-not-contains_subdomain-clause-none : goal.returns-then-not-contains_subdomain-clause-none
returns-then-not-contains_subdomain-clause-none g c = ((λ is h. true≢false (sym (c.contains_subdomain.ensures.1 h) ∙ c.if-not-contains_subdomain.true)), (λ not. refl))

pub returns-then-is_zero-clause-contained : goal.returns-then-is_zero-clause-contained
returns-then-is_zero-clause-contained g c = c.contains_subdomain.ensures.0 c.if-not-contains_subdomain.false

pub returns-then-is_zero-clause-none : goal.returns-then-is_zero-clause-none
returns-then-is_zero-clause-none g c = ((λ is. cc), (λ not. absurd (not (c.contains_subdomain.ensures.0 c.if-not-contains_subdomain.false))))

pub returns-then-is_zero-clause-value : goal.returns-then-is_zero-clause-value
returns-then-is_zero-clause-value g c =
    let K = g.F.Field.field in
    let h = c.contains_subdomain.ensures.0 c.if-not-contains_subdomain.false in
    let w = c.evaluate_vanishing_polynomial-vanishing.result in
    let o : w ≡ K.zero = (g.met.F.Field.equality_law w g.F.Zero.zero).0 (sym c.is_zero.ensures ∙ c.if-is_zero.true) ∙ g.met.F.Field.zero_law in
    let f = filter_inside (lawful g c.args.self.now) (lawful g c.args.subdomain.now) h c.args.tau w c.evaluate_vanishing_polynomial-vanishing.ensures.value o in
    (f.0, f.1, subst (IsValue K f.0 c.args.tau) (sym (c.one.ensures ∙ g.met.F.Field.one_law)) f.2)

pub unwrap-requires : goal.unwrap-requires
unwrap-requires g c =
    let K = g.F.Field.field in
    let N = g.met.F.Field.field_laws in
    let d = g.Self.EvaluationDomain.domain c.args.self.now in
    let w = c.evaluate_vanishing_polynomial-vanishing.result in
    let some : w ≢ K.zero = λ o.
    true≢false (sym ((g.met.F.Field.equality_law w g.F.Zero.zero).1 (o ∙ sym g.met.F.Field.zero_law)) ∙ sym c.is_zero.ensures ∙ c.if-is_zero.false) in
    let divisor : c.mul-divisor.result ≡ K.times (K.times (natural K d.size) (power K d.offset d.size)) w =
    g.met.F.Field.mul_law _ _ _ c.mul-divisor.ensures
    ∙ ap (λ t. K.times t w) (g.met.F.Field.mul_law _ _ _ c.mul.ensures ∙ ap₂ K.times c.size_as_field_element.ensures c.coset_offset_pow_size.ensures) in
    true_from_ne_false _
    (λ none. times_not_zero K N _ w (scale_not_zero (lawful g c.args.self.now)) some (sym divisor ∙ c.inverse.ensures.none.0 none))

pub returns-clause-value : goal.returns-clause-value
returns-clause-value g c =
    let K = g.F.Field.field in
    let d = g.Self.EvaluationDomain.domain c.args.self.now in
    let times = g.met.F.Field.mul_law in
    let h = c.contains_subdomain.ensures.0 c.if-not-contains_subdomain.false in
    let w = c.evaluate_vanishing_polynomial-vanishing.result in
    let z = c.evaluate_vanishing_polynomial.result in
    let v = c.unwrap.result in
    let some : w ≢ K.zero = λ o.
    true≢false (sym ((g.met.F.Field.equality_law w g.F.Zero.zero).1 (o ∙ sym g.met.F.Field.zero_law)) ∙ sym c.is_zero.ensures ∙ c.if-is_zero.false) in
    let divisor : c.mul-divisor.result ≡ K.times (K.times (natural K d.size) (power K d.offset d.size)) w =
    times _ _ _ c.mul-divisor.ensures
    ∙ ap (λ t. K.times t w) (times _ _ _ c.mul.ensures ∙ ap₂ K.times c.size_as_field_element.ensures c.coset_offset_pow_size.ensures) in
    filter_elsewhere (lawful g c.args.self.now) (lawful g c.args.subdomain.now) h c.args.tau w z v c.mul-4.result
    c.evaluate_vanishing_polynomial-vanishing.ensures.value
    c.evaluate_vanishing_polynomial.ensures.value
    some
    (ap (λ t. K.times t v) (sym divisor) ∙ (rw c.unwrap.ensures at c.inverse.ensures.some))
    (times _ _ _ c.mul-4.ensures
    ∙ ap (λ t. K.times t v)
    (times _ _ _ c.mul-3.ensures
    ∙ ap (λ t. K.times t z) (times _ _ _ c.mul-2.ensures ∙ ap₂ K.times c.size_as_field_element-2.ensures c.coset_offset_pow_size-2.ensures)))

pub returns-clause-contained : goal.returns-clause-contained
returns-clause-contained g c = c.contains_subdomain.ensures.0 c.if-not-contains_subdomain.false

pub returns-clause-none : goal.returns-clause-none
returns-clause-none g c = ((λ is. cc), (λ not. absurd (not (c.contains_subdomain.ensures.0 c.if-not-contains_subdomain.false))))
