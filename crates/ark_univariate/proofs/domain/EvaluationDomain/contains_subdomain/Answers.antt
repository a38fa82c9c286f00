use Rattle.std.proofs.Common.{◌≡◌, ◌<◌, ◌%◌, ◌∙◌, sym, ap₂, subst}
use Rattle.std.proofs.lemmas.Bool.{eqb-true}
use Rattle.ark_math.specs.Field.{power}
use Rattle.ark_math_domains.proofs.Domains.LawfulDomains.{lawful_domain, some_size, is_contained, contained_divides, contained_power}
use Rattle.ark_math.proofs.Outcomes.Tests.{decided}
use Rattle.ark_univariate.proofs.domain.EvaluationDomain.contains_subdomain.Goals as goal

pub nonzero_rem-size : goal.nonzero_rem-size
nonzero_rem-size g c =
    subst (λ n. 0 < n) (sym c.size-2.ensures)
    (some_size (lawful_domain g.met.F.Field.field_laws g.met.F.FftField.roots_law (g.met.Self.EvaluationDomain.lawful c.args.subdomain.now)))

pub returns-then-size-eq0 : goal.returns-then-size-eq0
returns-then-size-eq0 g c =
    let K = g.F.Field.field in
    let decide = λ (x y : g.row.F.Denot). decided _ (g.met.F.Field.equality_law x y) in
    let d = g.Self.EvaluationDomain.domain c.args.self.now in
    let D = lawful_domain g.met.F.Field.field_laws g.met.F.FftField.roots_law (g.met.Self.EvaluationDomain.lawful c.args.self.now) in
    let e = g.Self.EvaluationDomain.domain c.args.subdomain.now in
    let E = lawful_domain g.met.F.Field.field_laws g.met.F.FftField.roots_law (g.met.Self.EvaluationDomain.lawful c.args.subdomain.now) in
    let divides : d.size % e.size ≡ 0 = ap₂ (λ a b. a % b) (sym c.size.ensures) (sym c.size-2.ensures) ∙ c.if-size-eq0.true in
    let powers : c.pow.result ≡ power K e.offset d.size = c.pow.ensures ∙ ap₂ (power K) c.coset_offset.ensures c.size-then-size-eq0.ensures in
    let whole = c.coset_offset_pow_size.ensures in (
      (λ t. is_contained D E decide divides (sym powers ∙ (g.met.F.Field.equality_law _ _).0 (sym c.eq.ensures ∙ t) ∙ whole)),
      (λ h. c.eq.ensures ∙ (g.met.F.Field.equality_law _ _).1 (powers ∙ contained_power D E h ∙ sym whole)),
    )

pub returns-else-size-eq0 : goal.returns-else-size-eq0
returns-else-size-eq0 g c =
    let d = g.Self.EvaluationDomain.domain c.args.self.now in
    let D = lawful_domain g.met.F.Field.field_laws g.met.F.FftField.roots_law (g.met.Self.EvaluationDomain.lawful c.args.self.now) in
    let e = g.Self.EvaluationDomain.domain c.args.subdomain.now in
    let E = lawful_domain g.met.F.Field.field_laws g.met.F.FftField.roots_law (g.met.Self.EvaluationDomain.lawful c.args.subdomain.now) in
    let apart : d.size % e.size ≡ 0 → ⊥ = λ z. c.if-size-eq0.false (ap₂ (λ a b. a % b) c.size.ensures c.size-2.ensures ∙ z) in (
      (λ t. absurd (c.if-size-eq0.false (eqb-true _ _ t))),
      (λ h. absurd (apart (contained_divides D E h))),
    )
