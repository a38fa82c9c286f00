use Rattle.std.proofs.Common.{◌≡◌, take}
use Rattle.ark_words.specs.Codes.{left_count}
use Rattle.ark_words.proofs.codes.count_left.Given as goal

abbrev pub invariant-loop-i : goal.invariant-loop-i
invariant-loop-i l = l.count ≡ left_count (take l.i l.erased)
