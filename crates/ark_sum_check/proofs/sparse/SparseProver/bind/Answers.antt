use Rattle.std.proofs.Common.{sym, ap, subst, ◌∙◌}
use Rattle.ark_math.specs.Univariate.{of_pairs}
use Rattle.ark_sum_check.specs.Cube.{bound_to}
use Rattle.ark_sum_check.proofs.EntryTables.{factor-bound}
use Rattle.ark_sum_check.specs.Provers.{AreRising, factor_of}
use Rattle.ark_sum_check.proofs.sparse.SparseProver.bind.Goals as goal

pub returns-clause-rising : goal.returns-clause-rising
returns-clause-rising g c = λ h. c.bind_entries.ensures.rising (subst (λ p. AreRising p.entries) (sym c.self.view_is) h)

pub returns-clause-sum : goal.returns-clause-sum
returns-clause-sum g c =
    let K = g.F.Field.field in
    let x = c.args.challenge in
    factor-bound K g.met.F.Field.field_laws (of_pairs K c.self.inside.entries.items) _ x c.bind_entries.ensures.values
    ∙ ap (λ p. bound_to K x (factor_of K p)) c.self.view_is
