use Rattle.ark_math.proofs.Outcomes.Tests.{decided}
use Rattle.ark_sum_check.proofs.Believed.{few_believed}
use Rattle.ark_sum_check.proofs.laws.few_believed_challenges.Goals as goal

pub returns : goal.returns
returns g c claim sends ts choices m few false =
    few_believed g.F.Field.field g.met.F.Field.field_laws (λ a b. decided _ (g.met.F.Field.equality_law a b)) c.args.degree m claim sends ts choices few c.requires false
