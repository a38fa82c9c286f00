use Rattle.std.proofs.Common.{◌≡◌, map, take}
use Rattle.ark_tables.specs.Exchanged.{exchanged_index}
use Rattle.ark_tables.proofs.windows.exchanged_entries.Given as goal

abbrev pub invariant-loop-i : goal.invariant-loop-i
invariant-loop-i g l = l.moved.items ≡ map (λ e. (exchanged_index e.0 l.by.first l.by.second l.by.count, e.1)) (take l.i l.entries)
