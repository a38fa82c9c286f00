use Rattle.std.proofs.Common.{◌≡◌, take}
use Rattle.ark_word_sums.proofs.addends.indices.Given as goal

abbrev pub invariant-loop-i : goal.invariant-loop-i
invariant-loop-i l = l.indices.items ≡ take l.i l.words
