use Rattle.ark_sharing.proofs.Sums.{shares_added, sharing_added}
use Rattle.ark_sharing.proofs.laws.sum_of_sharings.Goals as goal

pub returns-clause-sharing : goal.returns-clause-sharing
returns-clause-sharing g c = sharing_added g.F.Field.field g.met.F.Field.field_laws

pub returns-clause-shares : goal.returns-clause-shares
returns-clause-shares g c = λ a b. shares_added g.F.Field.field g.met.F.Field.field_laws c.args.left.now c.args.right.now a b c.requires.points
