use Rattle.std.proofs.Common.{ap, ◌∙◌}
use Rattle.ark_math.specs.Univariate.{of_pairs}
use Rattle.ark_math_polynomials.proofs.Polynomials.UnivariatePairs.{of_pairs-push}
use Rattle.ark_coeffs.proofs.sparse.push_term.Goals as goal

pub returns-in_ok-push-clause-sum : goal.returns-in_ok-push-clause-sum
returns-in_ok-push-clause-sum g c =
    let K = g.F.Field.field in
    ap (of_pairs K) c.in_ok-push.ensures.items ∙ of_pairs-push K g.met.F.Field.field_laws c.args.terms.now.items (c.args.degree, c.args.coefficient)
