use Rattle.std.proofs.Common.{sym, ap, ◌∙◌}
use Rattle.std.proofs.lemmas.List.{map-id}
use Rattle.std.proofs.lemmas.Map.Iter.{iter_end}
use Rattle.ark_math.specs.Univariate.{of_pairs}
use Rattle.ark_math.proofs.Outcomes.Results.{IfOk_more}
use Rattle.ark_tables.proofs.HeldTables.{of_entries}
use Rattle.ark_tables.proofs.windows.sorted_entries.Goals as goal

pub returns-clause-values : goal.returns-clause-values
returns-clause-values g c =
    let K = g.F.Field.field in
    let m = c.args.table in
    let all = c.loop-entry.yielded in
    let whole = iter_end (λ x. x) m.entries all _ _ _ c.next.result c.into_iter-entry-iterator.ensures.into_iter_gives.0 c.loop-entry.yielded_by c.in-None.is c.next.ensures.steps in
    IfOk_more c.gathered_terms.result
    (λ v e. e ∙ ap (of_pairs K) (c.loop-entry.invariant ∙ sym (map-id all) ∙ whole.0) ∙ of_entries K g.met.F.Field.field_laws m c.len.ensures.unique)
    c.gathered_terms.ensures.sum
