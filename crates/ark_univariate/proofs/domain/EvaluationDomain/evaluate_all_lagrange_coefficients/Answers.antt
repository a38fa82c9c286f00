use Rattle.std.proofs.Common.{ℕ, ◌<◌, ◌∙◌, sym, ap, ap₂, subst, refl}
use Rattle.ark_math.specs.Field.{power}
use Rattle.ark_math_domains.proofs.Domains.LawfulDomains.{IsLawful, lawful_domain, one_weights, weights_of_indicator, weights_of_inverses}
use Rattle.ark_math.proofs.Outcomes.Results.{IfOk_both, IfOk_more}
use Rattle.ark_univariate.proofs.domain.EvaluationDomain.evaluate_all_lagrange_coefficients.Given as given
use Rattle.ark_univariate.proofs.domain.EvaluationDomain.evaluate_all_lagrange_coefficients.Goals as goal

lawful : (g : given.Over) (d : g.row.Self.Denot) → IsLawful g.F.Field.field g.F.FftField.adicity g.F.FftField.root (g.Self.EvaluationDomain.domain d)
lawful g d = lawful_domain g.met.F.Field.field_laws g.met.F.FftField.roots_law (g.met.Self.EvaluationDomain.lawful d)

pub returns-in_ok-indicator-in-None-clause-weights : goal.returns-in_ok-indicator-in-None-clause-weights
returns-in_ok-indicator-in-None-clause-weights g c =
    let K = g.F.Field.field in
    let d = g.Self.EvaluationDomain.domain c.args.self.now in
    let E = c.in_ok-indicator-in-None.ensures in
    let inside = λ (i : ℕ) (l : i < d.size). subst (λ n. i < n) (sym c.size.ensures) l in
    let place = λ (i : ℕ). ap₂ (λ x y. K.times x (power K y i)) c.coset_offset.ensures c.group_gen.ensures in
    weights_of_indicator (lawful g c.args.self.now) c.args.tau c.in_ok-indicator-in-None.field-0.items
    (c.evaluate_vanishing_polynomial-vanishing.ensures.zero.0 (c.in-None.ensures.none.0 refl))
    (E.len ∙ c.size.ensures)
    (λ i l e. E.here i (inside i l) (place i ∙ e))
    (λ i l ne. E.elsewhere i (inside i l) (λ e. ne (sym (place i) ∙ e)))

pub returns-in_ok-indicator-in-None-clause-only : goal.returns-in_ok-indicator-in-None-clause-only
returns-in_ok-indicator-in-None-clause-only g c =
    one_weights (lawful g c.args.self.now) c.args.tau c.in_ok-indicator-in-None.field-0.items (returns-in_ok-indicator-in-None-clause-weights g c)

pub returns-in-Some-clause-weights : goal.returns-in-Some-clause-weights
returns-in-Some-clause-weights g c =
    let K = g.F.Field.field in
    let times = g.met.F.Field.mul_law in
    let size = c.size-in-Some.ensures in
    IfOk_both c.inverted_progression_less.result
    (λ ws len inverses.
    weights_of_inverses (lawful g c.args.self.now) c.args.tau c.evaluate_vanishing_polynomial-vanishing.result c.in-Some.inverse c.mul-constant.result c.coset_offset_inv.result c.group_gen_inv.result c.mul-first.result ws.items
    c.evaluate_vanishing_polynomial-vanishing.ensures.value
    c.in-Some.ensures.some
    (times _ _ _ c.mul-constant.ensures ∙ ap (λ t. K.times t c.in-Some.inverse) (times _ _ _ c.mul.ensures ∙ ap₂ K.times c.size_as_field_element.ensures c.coset_offset_pow_size.ensures))
    c.coset_offset_inv.ensures
    c.group_gen_inv.ensures
    (times _ _ _ c.mul-first.ensures ∙ ap (λ t. K.times t c.coset_offset_inv.result) (times _ _ _ c.mul-in-Some.ensures))
    (len ∙ size)
    (λ i l. inverses i (subst (λ n. i < n) (sym size) l)))
    c.inverted_progression_less.ensures.len
    c.inverted_progression_less.ensures.inverses

pub returns-in-Some-clause-only : goal.returns-in-Some-clause-only
returns-in-Some-clause-only g c =
    IfOk_more c.inverted_progression_less.result (λ ws. one_weights (lawful g c.args.self.now) c.args.tau ws.items) (returns-in-Some-clause-weights g c)
