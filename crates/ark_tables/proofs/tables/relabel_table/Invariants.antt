use Rattle.std.proofs.Common.{◌≡◌, ℕ}
use Rattle.ark_math.specs.Univariate.{of_list}
use Rattle.ark_tables.specs.Exchanged.{exchanged_index}
use Rattle.ark_tables.proofs.TableLists.{exchanged_below}
use Rattle.ark_tables.proofs.tables.relabel_table.Given as goal

abbrev pub invariant-loop-i : goal.invariant-loop-i
invariant-loop-i g l =
    let K = g.F.Field.field in
    (c : ℕ) → of_list K l.table c ≡ exchanged_below (λ n. exchanged_index n l.by.first l.by.second l.by.count) l.i (of_list K l.initial.table) c
