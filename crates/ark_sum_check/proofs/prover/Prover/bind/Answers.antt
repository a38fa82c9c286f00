use Rattle.std.proofs.Common.{◌≡◌, ◌-◌, [], length, ◌∙◌, ap, arith}
use Rattle.std.specs.Vec.{with_items}
use Rattle.ark_math.proofs.Lists.Lists.{written_back}
use Rattle.ark_sum_check.specs.Cube.{bound_to, sum_with}
use Rattle.ark_sum_check.specs.Lists.{as_tables}
use Rattle.ark_sum_check.proofs.Factors.{sum_of-summed, sum_seen, summed-bound}
use Rattle.ark_sum_check.proofs.prover.Prover.bind.Goals as goal

pub returns-clause-sum : goal.returns-clause-sum
returns-clause-sum g c =
    let K = g.F.Field.field in
    let x = c.args.challenge in
    let n = c.self.inside.num_vars in
    let vs = c.self.inside.tables.items in
    let bs = c.self.inside.addends in
    let us = c.bind_each.new.tables in
    let ws = (with_items c.self.inside.tables us).items in
    let kept : length us ≡ length c.as_mut_slice.result.now = c.bind_each.ensures.count in
    let written : ws ≡ us = written_back us _ _ (omega (arith, kept, c.as_mut_slice.ensures.len)) in
    let count : length ws ≡ length vs = ap length written ∙ kept ∙ ap length c.as_mut_slice.ensures.value in
    let tables : sum_with K (as_tables K ws) [] ≡ bound_to K x (sum_with K (as_tables K vs) []) =
    ap (λ ts. sum_with K (as_tables K ts) []) written
    ∙ c.bind_each.ensures.values
    ∙ ap (λ ts. bound_to K x (sum_with K (as_tables K ts) [])) c.as_mut_slice.ensures.value in
    sum_of-summed K ws bs (n - 1)
    ∙ summed-bound K vs bs x ws count tables
    ∙ ap (bound_to K x) (sum_seen K vs bs n c.args.self.now c.self.view_is)
