use Rattle.std.proofs.Common.{◌≡◌, length, take}
use Rattle.ark_math.specs.Univariate.{of_list, of_pairs}
use Rattle.ark_tables.proofs.windows.values_of_entries.Given as goal

abbrev pub invariant-loop-i : goal.invariant-loop-i
invariant-loop-i g l =
    let K = g.F.Field.field in
    (length l.values.items ≡ l.len) × (of_list K l.values.items ≡ of_pairs K (take l.i l.entries))
