use Rattle.ark_math_transforms.proofs.Domains.Domains.{radix2_is_domain}
use Rattle.ark_math_domains.proofs.Domains.LawfulDomains.{lawful_domain, elements_differ}
use Rattle.ark_univariate.proofs.domain.radix2.Radix2EvaluationDomainEvaluationDomain.elements.Goals as goal

pub returns-clause-different : goal.returns-clause-different
returns-clause-different g c =
    let t = c.args.self.now.coset in
    elements_differ (lawful_domain g.met.F.Field.field_laws g.met.F.FftField.roots_law
    (radix2_is_domain g.F.Field.field g.F.FftField.adicity g.F.FftField.root g.met.F.Field.equality_law t.splits c.args.self.now.even t.root_is t.offset_not_zero))
