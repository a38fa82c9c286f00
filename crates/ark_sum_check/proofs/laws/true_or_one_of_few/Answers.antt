use Rattle.ark_math.proofs.Outcomes.Tests.{decided}
use Rattle.ark_sum_check.proofs.Unlucky.{true_or_few}
use Rattle.ark_sum_check.proofs.laws.true_or_one_of_few.Goals as goal

pub returns : goal.returns
returns g c claim rounds last ts few different accepted same =
    true_or_few g.F.Field.field g.met.F.Field.field_laws (λ a b. decided _ (g.met.F.Field.equality_law a b)) c.args.degree claim rounds last ts few different accepted same
