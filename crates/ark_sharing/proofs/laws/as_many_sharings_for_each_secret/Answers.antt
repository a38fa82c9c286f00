use Rattle.std.proofs.Common.{◌+◌, length, arith}
use Rattle.ark_math_points.specs.AtPoints.{x_of, y_of}
use Rattle.ark_sharing.proofs.Secrets.{sharing_more, some_sharing}
use Rattle.ark_sharing.proofs.Sums.{as_many}
use Rattle.ark_sharing.proofs.laws.as_many_sharings_for_each_secret.Goals as goal

pub returns-clause-some : goal.returns-clause-some
returns-clause-some g c =
    let K = g.F.Field.field in
    let N = g.met.F.Field.field_laws in
    let shares = c.args.shares.now in
    let n = length shares in
    λ k secret l. let h = some_sharing K N n (x_of K shares) (y_of K shares) secret c.requires.different c.requires.not_zero in (h.0, (sharing_more K N (n + 1) k secret h.0 (omega (arith, l)) h.1, h.2))

pub returns-clause-as_many : goal.returns-clause-as_many
returns-clause-as_many g c =
    λ k secret other l. as_many g.F.Field.field g.met.F.Field.field_laws c.args.shares.now k secret other c.requires.different c.requires.not_zero l
