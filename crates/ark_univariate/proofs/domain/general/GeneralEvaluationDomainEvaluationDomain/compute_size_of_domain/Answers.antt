use Rattle.std.proofs.Common.{refl}
use Rattle.std.proofs.lemmas.Option.{IfSome_then}
use Rattle.ark_math_transforms.proofs.Domains.GeneralSizes.{general_from_radix2, general_from_mixed, general_none}
use Rattle.ark_univariate.proofs.domain.general.GeneralEvaluationDomainEvaluationDomain.compute_size_of_domain.Goals as goal

pub returns-in-Some-clause-none : goal.returns-in-Some-clause-none
returns-in-Some-clause-none g c =
    let size = c.in-Some.ensures.size in
    ((λ h. cc), λ none. absurd (none size.0 _ (general_from_radix2 g.F.FftField.adicity c.args.num_coeffs size.0 _ size.1)))

pub returns-in-None-clause-size : goal.returns-in-None-clause-size
returns-in-None-clause-size g c =
    IfSome_then c.compute_size_of_domain-in-None.result c.compute_size_of_domain-in-None.ensures.size
    (λ n size. (size.0, general_from_mixed g.F.FftField.adicity c.args.num_coeffs (c.in-None.ensures.none.0 refl) size.0 n size.1))

pub returns-in-None-clause-none : goal.returns-in-None-clause-none
returns-in-None-clause-none g c = (
  (λ h. general_none g.F.FftField.adicity c.args.num_coeffs (c.in-None.ensures.none.0 refl) (c.compute_size_of_domain-in-None.ensures.none.0 h)),
  λ none.
      c.compute_size_of_domain-in-None.ensures.none.1 (λ kind n h. none kind n (general_from_mixed g.F.FftField.adicity c.args.num_coeffs (c.in-None.ensures.none.0 refl) kind n h)),
)
