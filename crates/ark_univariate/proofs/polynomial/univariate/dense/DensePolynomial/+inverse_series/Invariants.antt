use Rattle.ark_univariate.proofs.polynomial.univariate.dense.DensePolynomial.+inverse_series.Given as goal

abbrev pub decreases-inverse_series : goal.decreases-inverse_series
decreases-inverse_series g l = l.len
