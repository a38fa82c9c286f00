use Rattle.std.proofs.Common.{length}
use Rattle.ark_word_sums.proofs.AddendFronts.{BeginOfTables}
use Rattle.ark_word_sums.proofs.addends.are_addends.Given as goal

abbrev pub invariant-loop-rest : goal.invariant-loop-rest
invariant-loop-rest g l = BeginOfTables g.F.WordElement.spelled l.count l.words l.rest l.longest

abbrev pub decreases-loop-rest : goal.decreases-loop-rest
decreases-loop-rest g l = length l.rest
