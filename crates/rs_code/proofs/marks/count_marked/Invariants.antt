use Rattle.std.proofs.Common.{◌≡◌, take}
use Rattle.rs_code.specs.Codeword.{mark_count}
use Rattle.rs_code.proofs.marks.count_marked.Given as goal

abbrev pub invariant-loop-i : goal.invariant-loop-i
invariant-loop-i l = l.count ≡ mark_count (take l.i l.marks)
