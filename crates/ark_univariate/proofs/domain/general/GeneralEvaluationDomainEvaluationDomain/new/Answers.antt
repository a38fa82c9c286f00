use Rattle.std.proofs.Common.{ap, refl}
use Rattle.std.specs.Option.{is_some}
use Rattle.ark_math.specs.Domain.{radix2, mixed_radix}
use Rattle.ark_math_transforms.proofs.Domains.GeneralSizes.{general_from_mixed, general_none}
use Rattle.ark_univariate.proofs.domain.general.GeneralEvaluationDomainEvaluationDomain.new.Goals as goal

pub returns-in-Some-clause-none : goal.returns-in-Some-clause-none
returns-in-Some-clause-none g c = ((λ h. cc), λ none. absurd (none radix2 _ c.in-Some.ensures.chosen))

pub returns-in_err-mixed-clause-none : goal.returns-in_err-mixed-clause-none
returns-in_err-mixed-clause-none g c =
    ((λ h. general_none g.F.FftField.adicity c.args.num_coeffs (c.in_default.ensures.none.0 refl) (c.in_err-mixed.ensures.none.0 refl)), λ none. ap is_some c.from_residual.ensures)

pub returns-clause-chosen : goal.returns-clause-chosen
returns-clause-chosen g c =
    general_from_mixed g.F.FftField.adicity c.args.num_coeffs (c.in_default.ensures.none.0 refl) mixed_radix _ c.in_ok-mixed.ensures.chosen

pub returns-clause-none : goal.returns-clause-none
returns-clause-none g c = (
  (λ h. cc),
  λ none.
      absurd (none mixed_radix _ (general_from_mixed g.F.FftField.adicity c.args.num_coeffs (c.in_default.ensures.none.0 refl) mixed_radix _ c.in_ok-mixed.ensures.chosen)),
)
