use Rattle.std.proofs.Common.{◌≡◌, take, zip}
use Rattle.ark_words.proofs.extensions.entries_of.Given as goal

abbrev pub invariant-loop-i : goal.invariant-loop-i
invariant-loop-i g l = l.entries.items ≡ zip (take l.i l.indices) (take l.i l.values)
