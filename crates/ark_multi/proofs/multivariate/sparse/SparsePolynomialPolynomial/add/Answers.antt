use Rattle.std.proofs.Common.{ap, ◌∙◌}
use Rattle.ark_math_variables.specs.Multivariate.{of_listed}
use Rattle.ark_math.specs.Univariate.{added}
use Rattle.ark_math.proofs.Outcomes.Results.{IfOk_more}
use Rattle.ark_math_polynomials.proofs.Polynomials.Univariate.{coefficients_are_module}
use Rattle.ark_multi.proofs.multivariate.sparse.SparsePolynomialPolynomial.add.Goals as goal

pub returns-clause-sum : goal.returns-clause-sum
returns-clause-sum g c =
    let K = g.F.Field.field in
    let own = of_listed K g.T.Term.listed c.args.self.now.terms.items in
    let other = of_listed K g.T.Term.listed c.args.other.now.terms.items in
    IfOk_more c.plus_multiple.result
    (λ p e. e ∙ ap (added K own) ((coefficients_are_module K g.met.F.Field.field_laws).one_scale other))
    c.plus_multiple.ensures.sum
