use Rattle.ark_univariate.specs.GatheredLaws.{gather_equality}
use Rattle.ark_univariate.proofs.polynomial.univariate.sparse.SparsePolynomial.equality_law.Goals as goal

pub returns : goal.returns
returns g c =
    let F = g.met.F.Field in
    gather_equality g.F.Field.field F.field_laws g.F.PartialEq.eq g.F.Zero.zero F.equality_law F.zero_law c.args.self.now c.args.other.now
