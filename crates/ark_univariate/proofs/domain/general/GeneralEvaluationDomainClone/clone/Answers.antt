use Rattle.std.proofs.Common.{refl}
use Rattle.ark_univariate.proofs.domain.general.GeneralEvaluationDomainClone.clone.Goals as goal

pub returns : goal.returns
returns g c = record { cases = refl }
