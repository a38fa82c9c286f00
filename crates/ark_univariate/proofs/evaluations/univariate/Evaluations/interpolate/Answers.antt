use Rattle.std.proofs.Common.{◌≡◌, length, map, subst, sym, ap, ◌∙◌}
use Rattle.ark_math_domains.specs.Points.{AreValues}
use Rattle.ark_math.specs.Transform.{IsInverse}
use Rattle.ark_math.specs.Univariate.{IsBelow}
use Rattle.ark_math_domains.proofs.Callers.Transforms.{values_of_ifft}
use Rattle.ark_math_domains.proofs.Domains.LawfulDomains.{lawful_domain, only_interpolation}
use Rattle.ark_univariate.proofs.evaluations.univariate.Evaluations.interpolate.Goals as goal

pub returns-clause-values : goal.returns-clause-values
returns-clause-values g c =
    let K = g.F.Field.field in
    let d = g.D.EvaluationDomain.domain c.args.self.domain in
    let size : length c.args.self.evals ≡ d.size = sym (ap length (ap (λ v. v.evals) c.self.view_is)) ∙ c.self.invariant ∙ ap (λ v. (g.D.EvaluationDomain.domain v.domain).size) c.self.view_is in
    let inverse = subst (λ v. IsInverse K g.F.DomainCoeff.group (g.D.EvaluationDomain.domain v.domain) (map g.F.DomainCoeff.meaning v.evals) (map g.F.DomainCoeff.meaning c.ifft_in_place.new.evals.items)) c.self.view_is c.in_ok-ifft_in_place.ensures.inverse in
    let p = values_of_ifft K _ g.met.F.FftField.itself_law g.met.F.Field.field_laws d c.args.self.evals c.ifft_in_place.new.evals.items size inverse in
    subst (λ a. AreValues K d a c.args.self.evals) (sym c.from_coefficients_vec.ensures.coefficients) p.1

pub returns-clause-below : goal.returns-clause-below
returns-clause-below g c =
    let K = g.F.Field.field in
    let d = g.D.EvaluationDomain.domain c.args.self.domain in
    let size : length c.args.self.evals ≡ d.size = sym (ap length (ap (λ v. v.evals) c.self.view_is)) ∙ c.self.invariant ∙ ap (λ v. (g.D.EvaluationDomain.domain v.domain).size) c.self.view_is in
    let inverse = subst (λ v. IsInverse K g.F.DomainCoeff.group (g.D.EvaluationDomain.domain v.domain) (map g.F.DomainCoeff.meaning v.evals) (map g.F.DomainCoeff.meaning c.ifft_in_place.new.evals.items)) c.self.view_is c.in_ok-ifft_in_place.ensures.inverse in
    let p = values_of_ifft K _ g.met.F.FftField.itself_law g.met.F.Field.field_laws d c.args.self.evals c.ifft_in_place.new.evals.items size inverse in
    subst (IsBelow K d.size) (sym c.from_coefficients_vec.ensures.coefficients) p.0

pub returns-clause-only : goal.returns-clause-only
returns-clause-only g c other below values =
    only_interpolation (lawful_domain g.met.F.Field.field_laws g.met.F.FftField.roots_law (g.met.D.EvaluationDomain.lawful c.args.self.domain))
    other _ c.args.self.evals below (returns-clause-below g c) values (returns-clause-values g c)
