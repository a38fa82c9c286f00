use Rattle.std.proofs.Common.{ap, ◌∙◌}
use Rattle.ark_math_variables.specs.Multivariate.{of_listed}
use Rattle.ark_math.specs.Univariate.{added, opposite}
use Rattle.ark_math.proofs.Algebra.Groups.{zero_plus}
use Rattle.ark_math.proofs.Outcomes.Results.{IfOk_more}
use Rattle.ark_math_polynomials.proofs.Polynomials.Univariate.{coefficients_are_module}
use Rattle.ark_multi.proofs.multivariate.sparse.SparsePolynomialPolynomial.neg.Goals as goal

pub returns-clause-opposite : goal.returns-clause-opposite
returns-clause-opposite g c =
    let K = g.F.Field.field in
    let minus = opposite K (of_listed K g.T.Term.listed c.args.self.now.terms.items) in
    IfOk_more c.sub.result
    (λ p e. e ∙ ap (λ z. added K z minus) c.in_ok-zero.ensures.zero ∙ zero_plus (coefficients_are_module K g.met.F.Field.field_laws) minus)
    c.sub.ensures.difference
