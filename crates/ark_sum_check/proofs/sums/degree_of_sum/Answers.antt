use Rattle.std.proofs.Common.{sym, ap, ◌∙◌}
use Rattle.ark_sum_check.specs.Cube.{longest}
use Rattle.ark_sum_check.specs.Lists.{as_products, as_sum}
use Rattle.ark_sum_check.specs.Provers.{addends_of}
use Rattle.ark_sum_check.proofs.Factors.{longest-all}
use Rattle.ark_sum_check.proofs.sums.degree_of_sum.Goals as goal

pub returns-in-Some-clause-degree : goal.returns-in-Some-clause-degree
returns-in-Some-clause-degree g c =
    let K = g.F.Field.field in
    c.most_factors.ensures.most
    ∙ ap (λ bs. longest (as_products bs)) c.deref.ensures.value
    ∙ ap (λ o. longest (addends_of K c.args.count (as_sum o))) (sym c.in-Some.is)

pub returns-in-None-clause-degree : goal.returns-in-None-clause-degree
returns-in-None-clause-degree g c =
    let K = g.F.Field.field in
    sym (longest-all K c.args.count) ∙ ap (λ o. longest (addends_of K c.args.count (as_sum o))) (sym c.in-None.is)
