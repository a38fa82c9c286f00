use Rattle.std.proofs.Common.{◌≡◌, ◌+◌, ◌*◌, ◌<◌, [], sym, ap, subst, ◌∙◌}
use Rattle.std.specs.Prelude.{All}
use Rattle.ark_math.specs.Module.{itself, sum_below}
use Rattle.ark_math.specs.Univariate.{of_pairs}
use Rattle.ark_sum_check.specs.Cube.{sum_value}
use Rattle.ark_sum_check.specs.Provers.{factor_of}
use Rattle.ark_sum_check.proofs.EntryTables.{below_two, last_of_sides}
use Rattle.ark_sum_check.proofs.sparse.SparseProver.last_value.Goals as goal

pub returns : goal.returns
returns g c =
    let K = g.F.Field.field in
    let es = c.self.inside.entries.items in
    let us = c.deref.result.now in
    let n = c.self.inside.num_vars in
    let sums = c.sums_of_sides-value in
    let none : n ≡ 0 = ap (λ p. p.variables) c.self.view_is ∙ c.requires in
    let below : All (λ e. e.0 < 2 * 1) us = subst (All (λ e. e.0 < 2 * 1)) (sym c.deref.ensures.value) (below_two n es none c.self.invariant) in
    subst (λ p. sums.result.0 ≡ sum_value K (factor_of K p) []) c.self.view_is
    (last_of_sides K g.met.F.Field.field_laws (of_pairs K es) sums.result.0
    (sums.ensures.zero 1 below ∙ ap (λ ps. sum_below (itself K) 1 (λ b. of_pairs K ps (2 * b + 0))) c.deref.ensures.value))
