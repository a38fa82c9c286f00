use Rattle.ark_univariate.proofs.polynomial.univariate.dense.DensePolynomialDenseUVPolynomial.rand.Goals as goal

pub invariant_of-result : goal.invariant_of-result
invariant_of-result g c = rw c.in-Some.is at c.in_ok-coeffs.ensures.trimmed
