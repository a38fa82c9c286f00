use Rattle.std.proofs.Common.{◌≡◌, ◌∙◌}
use Rattle.ark_math_domains.proofs.Domains.LawfulDomains.{lawful_domain, places_quotient, places_remainder, places_product}
use Rattle.ark_math.proofs.Outcomes.Results.{IfOk_both}
use Rattle.ark_univariate.proofs.polynomial.univariate.dense.DensePolynomial.mul_over_domain.Goals as goal

pub returns-clause-remainder : goal.returns-clause-remainder
returns-clause-remainder g c =
    let D = lawful_domain g.met.F.Field.field_laws g.met.F.FftField.roots_law (g.met.D.EvaluationDomain.lawful c.args.domain) in
    let same : c.mul_assign.new.self.domain ≡ c.args.domain = c.mul_assign.ensures.domain ∙ c.in_ok-values.ensures.domain in
    let left = c.in_ok-values.ensures.values in
    let right = c.in_ok-evaluate_over_domain_by_ref.ensures.values in
    IfOk_both c.interpolate.result
    (λ p values below. places_quotient D _ _ _ _ _ _ left right values below c.mul_assign.ensures.evals)
    (rw same at c.interpolate.ensures.values)
    (rw same at c.interpolate.ensures.below)

pub returns-clause-only : goal.returns-clause-only
returns-clause-only g c =
    let D = lawful_domain g.met.F.Field.field_laws g.met.F.FftField.roots_law (g.met.D.EvaluationDomain.lawful c.args.domain) in
    let same : c.mul_assign.new.self.domain ≡ c.args.domain = c.mul_assign.ensures.domain ∙ c.in_ok-values.ensures.domain in
    let left = c.in_ok-values.ensures.values in
    let right = c.in_ok-evaluate_over_domain_by_ref.ensures.values in
    IfOk_both c.interpolate.result
    (λ p values below. places_remainder D _ _ _ _ _ _ left right values below c.mul_assign.ensures.evals)
    (rw same at c.interpolate.ensures.values)
    (rw same at c.interpolate.ensures.below)

pub returns-clause-product : goal.returns-clause-product
returns-clause-product g c =
    let D = lawful_domain g.met.F.Field.field_laws g.met.F.FftField.roots_law (g.met.D.EvaluationDomain.lawful c.args.domain) in
    let same : c.mul_assign.new.self.domain ≡ c.args.domain = c.mul_assign.ensures.domain ∙ c.in_ok-values.ensures.domain in
    let left = c.in_ok-values.ensures.values in
    let right = c.in_ok-evaluate_over_domain_by_ref.ensures.values in
    IfOk_both c.interpolate.result
    (λ p values below. places_product D _ _ _ _ _ _ left right values below c.mul_assign.ensures.evals)
    (rw same at c.interpolate.ensures.values)
    (rw same at c.interpolate.ensures.below)
