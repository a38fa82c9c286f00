use Rattle.std.proofs.Common.{ap, ◌∙◌}
use Rattle.ark_math.specs.Univariate.{of_pairs, added, scaled}
use Rattle.ark_math.proofs.Outcomes.Results.{IfOk_more}
use Rattle.ark_coeffs.proofs.sparse.sum_of_terms.Goals as goal

pub returns-clause-sum : goal.returns-clause-sum
returns-clause-sum g c =
    let K = g.F.Field.field in
    IfOk_more c.sum_with_multiple.result
    (λ s e. e ∙ ap (λ f. added K (of_pairs K c.args.left.now) (scaled K f (of_pairs K c.args.right.now))) c.by.ensures)
    c.sum_with_multiple.ensures.sum
