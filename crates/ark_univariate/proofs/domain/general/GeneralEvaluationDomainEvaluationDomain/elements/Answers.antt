use Rattle.ark_fft.specs.Elements.{left}
use Rattle.ark_fft.proofs.Yielded.{yields_wrapped}
use Rattle.ark_univariate.proofs.domain.general.GeneralEvaluationDomainEvaluationDomain.elements.Goals as goal

pub returns-in-Radix2-clause-yields : goal.returns-in-Radix2-clause-yields
returns-in-Radix2-clause-yields g c = rw c.in-Radix2.is (yields_wrapped (left g.F.Field.field) (λ e. e.0) _ _ c.elements.ensures.yields)

pub returns-in-MixedRadix-clause-yields : goal.returns-in-MixedRadix-clause-yields
returns-in-MixedRadix-clause-yields g c = rw c.in-MixedRadix.is (yields_wrapped (left g.F.Field.field) (λ e. e.0) _ _ c.elements-in-MixedRadix.ensures.yields)
