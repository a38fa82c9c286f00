use Rattle.std.proofs.Common.{ap, ◌∙◌, ◌==◌}
use Rattle.ark_math_polynomials.proofs.Polynomials.UnivariatePairs.{sparse_none_Decides}
use Rattle.ark_univariate.proofs.polynomial.univariate.sparse.SparsePolynomialPolynomial.is_zero.Goals as goal

pub returns : goal.returns
returns g c =
    let coeffs = c.self.inside.coeffs in
    rw (← c.self.view_is) (sparse_none_Decides g.F.Field.field g.met.F.Field.field_laws coeffs.items c.is_empty.result c.self.invariant (c.is_empty.ensures ∙ ap (λ n. n == 0) coeffs.ok.0))
