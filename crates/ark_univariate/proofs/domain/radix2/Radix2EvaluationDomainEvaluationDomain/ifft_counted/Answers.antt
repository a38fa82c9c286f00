use Rattle.std.proofs.lemmas.Result.{on_ok_weaker}
use Rattle.ark_math_transforms.proofs.Domains.Domains.{radix2_is_domain}
use Rattle.ark_math_domains.proofs.Domains.LawfulDomains.{lawful_domain, only_inverse}
use Rattle.ark_univariate.proofs.domain.radix2.Radix2EvaluationDomainEvaluationDomain.ifft_counted.Goals as goal

pub returns-clause-only : goal.returns-clause-only
returns-clause-only g c =
    let t = c.args.self.now.coset in
    on_ok_weaker c.ifft_counted.result
    (only_inverse (lawful_domain g.met.F.Field.field_laws g.met.F.FftField.roots_law
    (radix2_is_domain g.F.Field.field g.F.FftField.adicity g.F.FftField.root g.met.F.Field.equality_law t.splits c.args.self.now.even t.root_is t.offset_not_zero)) g.met.T.Summand.module_laws _ _)
    c.ifft_counted.ensures.inverse
