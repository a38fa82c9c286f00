use Rattle.ark_univariate.proofs.polynomial.univariate.sparse.SparsePolynomialPolynomial.sub_assign.Goals as goal

pub returns-clause-difference : goal.returns-clause-difference
returns-clause-difference g c = c.in_ok-self.ensures.difference
