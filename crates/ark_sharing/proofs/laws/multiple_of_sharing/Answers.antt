use Rattle.ark_sharing.proofs.Sums.{shares_scaled, sharing_scaled}
use Rattle.ark_sharing.proofs.laws.multiple_of_sharing.Goals as goal

pub returns-clause-sharing : goal.returns-clause-sharing
returns-clause-sharing g c = λ k s a. sharing_scaled g.F.Field.field g.met.F.Field.field_laws k c.args.factor s a

pub returns-clause-shares : goal.returns-clause-shares
returns-clause-shares g c = λ a. shares_scaled g.F.Field.field g.met.F.Field.field_laws c.args.factor c.args.shares.now a
