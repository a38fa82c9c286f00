use Rattle.ark_sharing.proofs.Secrets.{sharing_of_list}
use Rattle.ark_sharing.proofs.shares.share_with.Goals as goal

pub returns-then-coeffs-points-clause-sharing : goal.returns-then-coeffs-points-clause-sharing
returns-then-coeffs-points-clause-sharing g c = sharing_of_list g.F.Field.field g.met.F.Field.field_laws c.args.secret c.args.coeffs.now

pub returns-in_err-check_points-clause-sharing : goal.returns-in_err-check_points-clause-sharing
returns-in_err-check_points-clause-sharing g c = sharing_of_list g.F.Field.field g.met.F.Field.field_laws c.args.secret c.args.coeffs.now

pub returns-clause-sharing : goal.returns-clause-sharing
returns-clause-sharing g c = sharing_of_list g.F.Field.field g.met.F.Field.field_laws c.args.secret c.args.coeffs.now
