use Rattle.std.proofs.Common.{refl, ap, ◌∙◌}
use Rattle.ark_math_variables.specs.Multivariate.{of_listed}
use Rattle.ark_math.specs.Univariate.{added}
use Rattle.ark_math.proofs.Outcomes.Results.{IfOk_more}
use Rattle.ark_math_polynomials.proofs.Polynomials.Univariate.{scaled-negated_one}
use Rattle.ark_multi.proofs.multivariate.sparse.SparsePolynomialPolynomial.sub.Goals as goal

pub returns-clause-difference : goal.returns-clause-difference
returns-clause-difference g c =
    let K = g.F.Field.field in
    let own = of_listed K g.T.Term.listed c.args.self.now.terms.items in
    let other = of_listed K g.T.Term.listed c.args.other.now.terms.items in
    IfOk_more c.plus_multiple.result
    (λ p e. e ∙ ap (added K own) (scaled-negated_one K g.met.F.Field.field_laws (K.negated K.one) other refl))
    c.plus_multiple.ensures.sum
