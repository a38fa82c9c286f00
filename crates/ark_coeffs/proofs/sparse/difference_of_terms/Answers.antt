use Rattle.std.proofs.Common.{refl, ap, ◌∙◌}
use Rattle.ark_math.specs.Univariate.{of_pairs, added}
use Rattle.ark_math.proofs.Outcomes.Results.{IfOk_more}
use Rattle.ark_math_polynomials.proofs.Polynomials.Univariate.{scaled-negated_one}
use Rattle.ark_coeffs.proofs.sparse.difference_of_terms.Goals as goal

pub returns-clause-difference : goal.returns-clause-difference
returns-clause-difference g c =
    let K = g.F.Field.field in
    let right = of_pairs K c.args.right.now in
    IfOk_more c.sum_with_multiple.result
    (λ d e. e ∙ ap (added K (of_pairs K c.args.left.now)) (scaled-negated_one K g.met.F.Field.field_laws (K.negated K.one) right refl))
    c.sum_with_multiple.ensures.sum
