use Rattle.std.proofs.Common.{rules, sym, ◌∙◌, Ok, Err}
use Rattle.std.proofs.lemmas.List.Sorted.{answers_always}
use Rattle.ark_tables.proofs.HeldTables.{searched}
use Rattle.ark_tables.proofs.windows.value_at.Goals as goal

pub returns-in-Ok : goal.returns-in-Ok
returns-in-Ok g c =
    let facts = c.in-Ok.ensures in
    let found = searched g.F.Field.field g.met.F.Field.field_laws c.args.entries.now c.args.index (Ok c.in-Ok.place) c.requires.sparse facts.bound
    (facts.position (λ e. e.0) (answers_always _ _ _ (λ f a r g called. search rules))) in
    found.found.1 c.index-entries-place.result

pub returns-in-Err : goal.returns-in-Err
returns-in-Err g c =
    let facts = c.in-Err.ensures in
    let found = searched g.F.Field.field g.met.F.Field.field_laws c.args.entries.now c.args.index (Err c.in-Err.field-0) c.requires.sparse facts.bound
    (facts.position (λ e. e.0) (answers_always _ _ _ (λ f a r g called. search rules))) in
    c.requires.zero ∙ sym found.absent
