use Rattle.std.proofs.Common.{◌≡◌, ℕ, ◌^◌, List, length, ap, sym, ◌∙◌}
use mathlib.Core.Path.{fun_ext}
use Rattle.ark_math_variables.specs.Multilinear.{extension, exchanged}
use Rattle.ark_math.specs.Univariate.{of_pairs}
use Rattle.ark_math.proofs.Outcomes.Results.{IfOk_more, IfOk_both}
use Rattle.ark_tables.proofs.Exchanged.{exchanged_index-same, exchanged_index-none, exchanged_index-below, exchanged_index-twice, extension-exchanged, extension-exchanged_pairs}
use Rattle.ark_tables.specs.Exchanged.{exchanged_index}
use Rattle.ark_tables.proofs.SparseTables.{moved_within}
use Rattle.ark_tables.proofs.windows.relabel_entries.Goals as goal
use Rattle.ark_tables.proofs.windows.relabel_entries.Goals.{then-by-eq0-via-else-by-eq0+then-by, then-by-eq0-via-then-by-eq0}

pub returns-then-by-eq0-clause-values : goal.returns-then-by-eq0-clause-values
returns-then-by-eq0-clause-values g c x long =
    let K = g.F.Field.field in
    let t = of_pairs K c.args.entries.now in
    let still : (n : ℕ) → exchanged_index n c.args.by.first c.args.by.second c.args.by.count ≡ n = λ n. elim c.then-by-eq0.branch [
      | then-by-eq0-via-else-by-eq0+then-by w ↦ ap (λ b. exchanged_index n c.args.by.first b c.args.by.count) (sym w.if-by.true) ∙ exchanged_index-same n c.args.by.first c.args.by.count
      | then-by-eq0-via-then-by-eq0 w ↦ ap (exchanged_index n c.args.by.first c.args.by.second) w.if-by-eq0.true ∙ exchanged_index-none n c.args.by.first c.args.by.second
    ] in
    ap (λ es. extension K (of_pairs K es) x) c.in_ok-from_slice.ensures.items
    ∙ ap (λ f. extension K f x) (fun_ext (λ n. ap t (sym (still n))))
    ∙ extension-exchanged K g.met.F.Field.field_laws c.args.num_vars c.args.by.first c.args.by.second c.args.by.count c.requires.windows t x long

pub returns-clause-within : goal.returns-clause-within
returns-clause-within g c =
    let K = g.F.Field.field in
    let n = c.args.num_vars in
    let windows = c.requires.windows in
    IfOk_both c.gathered_terms.result
    (λ v sparse e. moved_within K g.met.F.Field.field_laws (λ i. exchanged_index i c.args.by.first c.args.by.second c.args.by.count)
    (exchanged_index-twice n c.args.by.first c.args.by.second c.args.by.count windows) (2 ^ n) (exchanged_index-below n c.args.by.first c.args.by.second c.args.by.count windows)
    v.items c.args.entries.now sparse (e ∙ ap (of_pairs K) c.in_ok-exchanged_entries.ensures.moved) c.requires.within)
    c.gathered_terms.ensures.sparse c.gathered_terms.ensures.sum

pub returns-clause-values : goal.returns-clause-values
returns-clause-values g c =
    let K = g.F.Field.field in
    IfOk_more {Q = λ e. (x : List _) → length x ≡ c.args.num_vars → extension K (of_pairs K e.items) x ≡ extension K (of_pairs K c.args.entries.now) (exchanged K x c.args.by.first c.args.by.second c.args.by.count)} c.gathered_terms.result
    (λ v e x long. ap (λ t. extension K t x) (e ∙ ap (of_pairs K) c.in_ok-exchanged_entries.ensures.moved)
    ∙ extension-exchanged_pairs K g.met.F.Field.field_laws c.args.num_vars c.args.by.first c.args.by.second c.args.by.count c.requires.windows c.args.entries.now x long)
    c.gathered_terms.ensures.sum
