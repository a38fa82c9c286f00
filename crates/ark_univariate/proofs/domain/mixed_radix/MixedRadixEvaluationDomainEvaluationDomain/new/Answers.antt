use Rattle.std.proofs.Common.{subst, sym, ap}
use Rattle.std.specs.Option.{is_some}
use Rattle.ark_math.specs.Domain.{mixed_radix, IsLeast, IsSize}
use Rattle.ark_math_transforms.proofs.Domains.MixedSizes.{mixed_none}
use Rattle.ark_univariate.proofs.domain.mixed_radix.MixedRadixEvaluationDomainEvaluationDomain.new.Goals as goal

pub returns-in_err-size-clause-none : goal.returns-in_err-size-clause-none
returns-in_err-size-clause-none g c = ((λ none. mixed_none g.F.FftField.adicity c.args.num_coeffs c.in_err-size.ensures.none), (λ none. ap is_some c.from_residual.ensures))

pub returns-clause-chosen : goal.returns-clause-chosen
returns-clause-chosen g c = subst (IsLeast (IsSize g.F.FftField.adicity mixed_radix) c.args.num_coeffs) (sym c.subgroup.ensures.size) c.in_ok-size.ensures.least

pub returns-clause-none : goal.returns-clause-none
returns-clause-none g c = ((λ h. cc), λ none. absurd (none mixed_radix _ c.in_ok-size.ensures.least))
