use Rattle.std.proofs.Common.{ap, refl}
use Rattle.std.specs.Option.{is_some}
use Rattle.ark_math.specs.Domain.{radix2}
use Rattle.ark_math.proofs.Domains.Sizes.{radix2_none}
use Rattle.ark_univariate.proofs.domain.radix2.Radix2EvaluationDomainEvaluationDomain.compute_size_of_domain.Goals as goal

pub returns-in_err-size-clause-none : goal.returns-in_err-size-clause-none
returns-in_err-size-clause-none g c = ((λ none. radix2_none _ _ (c.in_err-size.ensures.none.0 refl)), (λ none. ap is_some c.from_residual.ensures))

pub returns-clause-none : goal.returns-clause-none
returns-clause-none g c = ((λ h. cc), λ none. absurd (none radix2 _ c.in_ok-size.ensures.least))
