use Rattle.std.proofs.Common.{◌≡◌, drop}
use Rattle.std.specs.Cmp.Lexicographic.{slice_cmp}
use Rattle.ark_tables.specs.Graded.{pair_cmp}
use Rattle.ark_tables.proofs.powers.compared_pairs.Given as goal

abbrev pub invariant-loop-i : goal.invariant-loop-i
invariant-loop-i l = slice_cmp pair_cmp (drop l.i l.s) (drop l.i l.t) ≡ slice_cmp pair_cmp l.s l.t
