use Rattle.std.proofs.Common.{◌≡◌, take}
use Rattle.rs_code.specs.Codeword.{erasure_count}
use Rattle.rs_code.proofs.marks.count_erased.Given as goal

abbrev pub invariant-loop-i : goal.invariant-loop-i
invariant-loop-i g l = l.count ≡ erasure_count (take l.i l.word)
