use Rattle.std.proofs.Common.{◌<◌, ◌%◌, ◌∙◌, refl, sym, ap, ap₂, subst, true≢false}
use Rattle.ark_math.specs.Field.{power}
use Rattle.ark_math_domains.specs.Points.{IsFilter}
use Rattle.ark_math_domains.proofs.Domains.LawfulDomains.{IsLawful, lawful_domain, some_size, contained_divides, filter_of_spaced, filter_degree, only_filter}
use Rattle.ark_univariate.proofs.domain.EvaluationDomain.filter_polynomial.Given as given
use Rattle.ark_univariate.proofs.domain.EvaluationDomain.filter_polynomial.Goals as goal

lawful : (g : given.Over) (d : g.row.Self.Denot) → IsLawful g.F.Field.field g.F.FftField.adicity g.F.FftField.root (g.Self.EvaluationDomain.domain d)
lawful g d = lawful_domain g.met.F.Field.field_laws g.met.F.FftField.roots_law (g.met.Self.EvaluationDomain.lawful d)

pub spaced_progression-requires-clause-nonempty : goal.spaced_progression-requires-clause-nonempty
spaced_progression-requires-clause-nonempty g c = subst (λ n. 0 < n) (sym c.size-2.ensures) (some_size (lawful g c.args.self.now))

pub spaced_progression-requires-clause-apart : goal.spaced_progression-requires-clause-apart
spaced_progression-requires-clause-apart g c = subst (λ n. 0 < n) (sym c.size-3.ensures) (some_size (lawful g c.args.subdomain.now))

pub spaced_progression-requires-clause-divides : goal.spaced_progression-requires-clause-divides
spaced_progression-requires-clause-divides g c =
    ap₂ (λ a b. a % b) c.size-2.ensures c.size-3.ensures
    ∙ contained_divides (lawful g c.args.self.now) (lawful g c.args.subdomain.now) (c.contains_subdomain.ensures.0 c.if-not-contains_subdomain.false)

pub returns-then-not-contains_subdomain-clause-foreign : goal.returns-then-not-contains_subdomain-clause-foreign
returns-then-not-contains_subdomain-clause-foreign g c = ((λ same h. true≢false (sym (c.contains_subdomain.ensures.1 h) ∙ c.if-not-contains_subdomain.true)), (λ not. refl))

pub returns-clause-filter : goal.returns-clause-filter
returns-clause-filter g c =
    let K = g.F.Field.field in
    let spaced = c.in_ok-coeffs.ensures in
    subst (IsFilter K (g.Self.EvaluationDomain.domain c.args.subdomain.now) (g.Self.EvaluationDomain.domain c.args.self.now)) (sym c.from_coefficients_vec.ensures.coefficients)
    (filter_of_spaced (lawful g c.args.self.now) (lawful g c.args.subdomain.now) (c.contains_subdomain.ensures.0 c.if-not-contains_subdomain.false)
    c.size_inv.result c.coset_offset_inv.result c.mul-start.result c.pow-ratio.result c.size-2.result c.size-3.result c.in_ok-coeffs.coeffs.items
    c.size_inv.ensures c.coset_offset_inv.ensures c.size-2.ensures c.size-3.ensures
    (g.met.F.Field.mul_law _ _ _ c.mul-start.ensures ∙ ap (λ t. K.times t c.size_inv.result) c.size_as_field_element.ensures)
    (c.pow-ratio.ensures ∙ ap (power K c.coset_offset_inv.result) c.size.ensures)
    spaced.len spaced.items spaced.zeros)

pub returns-clause-only : goal.returns-clause-only
returns-clause-only g c =
    only_filter (lawful g c.args.self.now) (lawful g c.args.subdomain.now) (c.contains_subdomain.ensures.0 c.if-not-contains_subdomain.false) _ (returns-clause-filter g c)

pub returns-clause-degree : goal.returns-clause-degree
returns-clause-degree g c =
    filter_degree (lawful g c.args.self.now) (lawful g c.args.subdomain.now) (c.contains_subdomain.ensures.0 c.if-not-contains_subdomain.false) _ (returns-clause-filter g c)

pub returns-clause-contained : goal.returns-clause-contained
returns-clause-contained g c = c.contains_subdomain.ensures.0 c.if-not-contains_subdomain.false

pub returns-clause-foreign : goal.returns-clause-foreign
returns-clause-foreign g c = ((λ same. cc), (λ not. absurd (not (c.contains_subdomain.ensures.0 c.if-not-contains_subdomain.false))))
