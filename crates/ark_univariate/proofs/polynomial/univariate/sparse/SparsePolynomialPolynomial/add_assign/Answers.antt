use Rattle.ark_univariate.proofs.polynomial.univariate.sparse.SparsePolynomialPolynomial.add_assign.Goals as goal

pub returns-clause-sum : goal.returns-clause-sum
returns-clause-sum g c = c.in_ok-self.ensures.sum
