use Rattle.std.proofs.Common.{◌≡◌, ℕ, ◌<◌, get_or, length}
use Rattle.ark_math.specs.Univariate.{nothing, of_list}
use Rattle.ark_sum_check.specs.Lists.{as_tables}
use Rattle.ark_sum_check.proofs.prover.Prover.last_value.Given as goal

abbrev pub invariant-loop-table : goal.invariant-loop-table
invariant-loop-table g l =
    let K = g.F.Field.field in
    record {
      count : length l.values.items ≡ l.table-index;
      values : (i : ℕ) → i < l.table-index → of_list K l.values.items i ≡ get_or (as_tables K l.self-inside.tables.items) i (nothing K) 0;
    }
