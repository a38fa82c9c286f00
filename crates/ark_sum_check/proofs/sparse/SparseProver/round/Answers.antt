use Rattle.std.proofs.Common.{◌≡◌, ◌+◌, ◌-◌, ◌*◌, ◌^◌, ◌<◌, [], ◌∷◌, ◌++◌, sym, ap, subst, ◌∙◌, arith}
use Rattle.std.specs.Prelude.{All}
use Rattle.ark_math.specs.Module.{itself, sum_below}
use Rattle.ark_math.specs.Univariate.{of_pairs}
use Rattle.ark_sum_check.specs.Provers.{factor_of}
use Rattle.ark_sum_check.specs.Rounds.{IsTrueRound}
use Rattle.ark_sum_check.proofs.EntryTables.{below_halves, round_of_sides}
use Rattle.ark_sum_check.proofs.sparse.SparseProver.round.Goals as goal

pub returns-clause-truth : goal.returns-clause-truth
returns-clause-truth g c =
    let K = g.F.Field.field in
    let es = c.self.inside.entries.items in
    let us = c.deref.result.now in
    let n = c.self.inside.num_vars in
    let h = 2 ^ (n - 1) in
    let sums = c.sums_of_sides-zero in
    let values = c.push-2.new.self.items in
    let variables : n ≡ c.args.self.now.variables = ap (λ p. p.variables) c.self.view_is in
    let some : 0 < n = omega (arith, variables, c.requires) in
    let below : All (λ e. e.0 < 2 * h) us = subst (All (λ e. e.0 < 2 * h)) (sym c.deref.ensures.value) (below_halves n es some c.self.invariant) in
    subst (λ p. IsTrueRound K 1 (p.variables - 1) (factor_of K p) values) c.self.view_is
    (round_of_sides K g.met.F.Field.field_laws (n - 1) (of_pairs K es) sums.result.0 sums.result.1 values
    (sums.ensures.zero h below ∙ ap (λ ps. sum_below (itself K) h (λ b. of_pairs K ps (2 * b + 0))) c.deref.ensures.value)
    (sums.ensures.one h below ∙ ap (λ ps. sum_below (itself K) h (λ b. of_pairs K ps (2 * b + 1))) c.deref.ensures.value)
    (c.in_ok-push-2.ensures.items ∙ ap (λ vs. vs ++ sums.result.1 ∷ []) (c.in_ok-push.ensures.items ∙ ap (λ vs. vs ++ sums.result.0 ∷ []) c.in_ok-values.ensures.items)))
