use Rattle.std.proofs.Common.{◌≡◌}
use Rattle.ark_tables.proofs.windows.sorted_entries.Given as goal

abbrev pub invariant-loop-entry : goal.invariant-loop-entry
invariant-loop-entry g l = l.entries.items ≡ l.yielded
