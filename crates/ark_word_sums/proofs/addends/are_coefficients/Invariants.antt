use Rattle.std.proofs.Common.{◌<◌, length}
use Rattle.ark_word_sums.proofs.AddendFronts.{BeginWith}
use Rattle.ark_word_sums.proofs.addends.are_coefficients.Given as goal

abbrev pub invariant-loop-rest : goal.invariant-loop-rest
invariant-loop-rest g l =
    let f = g.F.WordElement.spelled in
    BeginWith f (λ a. a.coefficient < f.known.modulus) l.words l.rest

abbrev pub decreases-loop-rest : goal.decreases-loop-rest
decreases-loop-rest g l = length l.rest
