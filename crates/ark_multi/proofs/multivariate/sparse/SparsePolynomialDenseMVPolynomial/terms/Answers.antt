use Rattle.std.proofs.lemmas.List.Elements.{All-map}
use Rattle.ark_math_variables.specs.Term.{IsWithin}
use Rattle.ark_multi.proofs.multivariate.sparse.SparsePolynomialDenseMVPolynomial.terms.Goals as goal

pub returns-clause-within : goal.returns-clause-within
returns-clause-within g c =
    let self = c.args.self.now in
    All-map (λ p. IsWithin self.num_vars p.1) (λ x. (x.0, g.T.Term.listed x.1)) self.terms.items self.within
