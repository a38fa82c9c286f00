use Rattle.std.proofs.Common.{◌≡◌, map, string_bytes}
use Rattle.polyrun_lib.proofs.Writing.{written}
use Rattle.polyrun_lib.proofs.lines.line.Given as goal

abbrev pub invariant-loop-i : goal.invariant-loop-i
invariant-loop-i g l = string_bytes l.text ≡ written (map g.F.PrimeNumbers.numbering.number l.elements) l.i
