use Rattle.std.specs.List.{All}
use Rattle.ark_math_variables.specs.Term.{IsOnePower, IsWithin}
use Rattle.ark_multi.proofs.multivariate.sparse.SparsePolynomialDenseMVPolynomial.rand.Given as goal

abbrev pub invariant-loop-variable : goal.invariant-loop-variable
invariant-loop-variable g l = record {
  within : All (λ c. IsWithin l.num_vars (g.T.Term.listed c.1)) l.terms.items;
  powers : All (λ c. IsOnePower l.d (g.T.Term.listed c.1)) l.terms.items;
}
