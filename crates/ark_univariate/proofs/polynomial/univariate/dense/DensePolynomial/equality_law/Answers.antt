use Rattle.ark_math_polynomials.proofs.Polynomials.Trimmed.{trim_equality}
use Rattle.ark_univariate.proofs.polynomial.univariate.dense.DensePolynomial.equality_law.Goals as goal

pub returns : goal.returns
returns g c =
    let F = g.met.F.Field in
    trim_equality g.F.Field.field g.F.PartialEq.eq g.F.Zero.zero F.equality_law F.zero_law c.args.self.now c.args.other.now
