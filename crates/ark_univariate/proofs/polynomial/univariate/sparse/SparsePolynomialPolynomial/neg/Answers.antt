use Rattle.std.proofs.Common.{ap, ◌∙◌}
use Rattle.ark_math.specs.Univariate.{of_pairs, added, opposite}
use Rattle.ark_math.proofs.Algebra.Groups.{zero_plus}
use Rattle.ark_math_polynomials.proofs.Polynomials.Univariate.{coefficients_are_module}
use Rattle.ark_math.proofs.Outcomes.Results.{IfOk_more}
use Rattle.ark_univariate.proofs.polynomial.univariate.sparse.SparsePolynomialPolynomial.neg.Goals as goal

pub returns-clause-opposite : goal.returns-clause-opposite
returns-clause-opposite g c =
    let K = g.F.Field.field in
    let negative = opposite K (of_pairs K c.args.self.now) in
    IfOk_more c.sub-2.result
    (λ p e. e ∙ ap (λ t. added K t negative) c.in_ok-zero.ensures.zero ∙ zero_plus (coefficients_are_module K g.met.F.Field.field_laws) negative)
    c.sub-2.ensures.difference
