use Rattle.std.proofs.Common.{ap₂, sym, subst, ◌∙◌}
use Rattle.ark_math_domains.specs.Points.{AreValues}
use Rattle.ark_math_domains.proofs.OverDomains.PlaceValues.{one_list_of_values}
use Rattle.ark_poly.proofs.laws.univariate.values_of_all_forms.Goals as goal

pub returns-clause-sparse : goal.returns-clause-sparse
returns-clause-sparse g c =
    let K = g.F.Field.field in
    let d = g.D.EvaluationDomain.domain c.args.domain in
    let dense = c.in_ok-evaluate_over_domain_by_ref in
    let sparse = c.in_ok-evaluate_over_domain_by_ref-2 in
    ap₂ (λ evals domain. record { evals = evals; domain = domain })
    (one_list_of_values K g.met.F.Field.field_laws d _ sparse.field-0.evals dense.field-0.evals
    (subst (λ a. AreValues K d a sparse.field-0.evals) c.requires.sparse sparse.ensures.values) dense.ensures.values)
    (sparse.ensures.domain ∙ sym dense.ensures.domain)

pub returns-clause-either : goal.returns-clause-either
returns-clause-either g c =
    let K = g.F.Field.field in
    let d = g.D.EvaluationDomain.domain c.args.domain in
    let dense = c.in_ok-evaluate_over_domain_by_ref in
    let either = c.in_ok-evaluate_over_domain in
    ap₂ (λ evals domain. record { evals = evals; domain = domain })
    (one_list_of_values K g.met.F.Field.field_laws d _ either.field-0.evals dense.field-0.evals
    (subst (λ a. AreValues K d a either.field-0.evals) c.requires.either either.ensures.values) dense.ensures.values)
    (either.ensures.domain ∙ sym dense.ensures.domain)
