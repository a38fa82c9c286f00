use Rattle.std.proofs.Common.{length}
use Rattle.ark_word_sums.specs.Read.{numbered}
use Rattle.ark_word_sums.proofs.AddendFronts.{StandBefore}
use Rattle.ark_word_sums.proofs.addends.addends_of.Given as goal

abbrev pub invariant-loop-rest : goal.invariant-loop-rest
invariant-loop-rest g l =
    StandBefore g.F.WordElement.spelled l.words (numbered g.F.PrimeNumbers.numbering.number l.addends.items) l.rest

abbrev pub decreases-loop-rest : goal.decreases-loop-rest
decreases-loop-rest g l = length l.rest
