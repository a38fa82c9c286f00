use Rattle.std.proofs.Common.{take}
use Rattle.ark_sum_check.proofs.EntryTables.{IsSideSum}
use Rattle.ark_sum_check.proofs.entries.sums_of_sides.Given as goal

abbrev pub invariant-loop-entry : goal.invariant-loop-entry
invariant-loop-entry g l =
    let K = g.F.Field.field in
    record {
      zero : IsSideSum K 0 l.entries (take l.entry-index l.entries) l.zero;
      one : IsSideSum K 1 l.entries (take l.entry-index l.entries) l.one;
    }
