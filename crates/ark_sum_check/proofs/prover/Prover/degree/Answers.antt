use Rattle.std.proofs.Common.{◌≡◌, ap, ◌∙◌, length, max, arith, rules}
use Rattle.ark_sum_check.specs.Cube.{degree_of, longest}
use Rattle.ark_sum_check.specs.Lists.{as_sum}
use Rattle.ark_sum_check.specs.Provers.{addends_of, sum_of}
use Rattle.ark_sum_check.proofs.Factors.{sum_seen}
use Rattle.ark_sum_check.proofs.prover.Prover.degree.Goals as goal

pub returns-clause-degree : goal.returns-clause-degree
returns-clause-degree g c =
    let K = g.F.Field.field in
    let vs = c.self.inside.tables.items in
    let bs = c.self.inside.addends in
    let count : c.len.result ≡ length vs = omega (arith, c.len.ensures, c.self.inside.tables.ok) in
    let degree : c.degree_of_sum.result ≡ degree_of (sum_of K c.args.self.now) =
    c.degree_of_sum.ensures.degree
    ∙ ap (λ n. longest (addends_of K n (as_sum bs))) count
    ∙ ap degree_of (sum_seen K vs bs c.self.inside.num_vars c.args.self.now c.self.view_is) in
    let greater : c.max.result ≡ max c.degree_of_sum.result 1 = search rules in
    omega (arith, degree, greater)
