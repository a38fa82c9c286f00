use Rattle.std.proofs.Common.{ap, ◌∙◌, ◌==◌}
use Rattle.ark_math_polynomials.proofs.Polynomials.UnivariateLists.{trimmed_none_Decides}
use Rattle.ark_univariate.proofs.polynomial.univariate.dense.DensePolynomialPolynomial.is_zero.Goals as goal

pub returns : goal.returns
returns g c =
    let coeffs = c.self.inside.coeffs in
    rw (← c.self.view_is) (trimmed_none_Decides g.F.Field.field coeffs.items c.is_empty.result c.self.invariant (c.is_empty.ensures ∙ ap (λ n. n == 0) coeffs.ok.0))
