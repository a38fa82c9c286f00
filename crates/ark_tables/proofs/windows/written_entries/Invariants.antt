use Rattle.std.proofs.Common.{◌≡◌, take}
use Rattle.ark_math_variables.specs.Multilinear.{written}
use Rattle.ark_tables.specs.Held.{held}
use Rattle.ark_tables.proofs.windows.written_entries.Given as goal

abbrev pub invariant-loop-i : goal.invariant-loop-i
invariant-loop-i g l =
    let K = g.F.Field.field in
    held K l.table ≡ written K.zero (take l.i l.pairs)
