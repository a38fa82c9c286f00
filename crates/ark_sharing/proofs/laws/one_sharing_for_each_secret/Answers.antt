use Rattle.std.proofs.Common.{length}
use Rattle.ark_math_points.specs.AtPoints.{x_of, y_of}
use Rattle.ark_sharing.proofs.Secrets.{only_sharing, some_sharing}
use Rattle.ark_sharing.proofs.laws.one_sharing_for_each_secret.Goals as goal

pub returns-clause-some : goal.returns-clause-some
returns-clause-some g c =
    let K = g.F.Field.field in
    let N = g.met.F.Field.field_laws in
    let shares = c.args.shares.now in
    let r = c.requires in
    let x = x_of K shares in
    let y = y_of K shares in
    some_sharing K N (length shares) x y c.args.secret r.different r.not_zero

pub returns-clause-only : goal.returns-clause-only
returns-clause-only g c =
    let K = g.F.Field.field in
    let N = g.met.F.Field.field_laws in
    let shares = c.args.shares.now in
    let r = c.requires in
    let x = x_of K shares in
    let y = y_of K shares in
    λ a b h values k others. only_sharing K N (length shares) x y c.args.secret r.different r.not_zero a b h values k others
