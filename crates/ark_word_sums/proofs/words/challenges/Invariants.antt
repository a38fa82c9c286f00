use Rattle.std.proofs.Common.{◌≡◌, ◌*◌, take}
use Rattle.std.specs.List.{flat_map}
use Rattle.ark_word_sums.proofs.words.challenges.Given as goal

abbrev pub invariant-loop-i : goal.invariant-loop-i
invariant-loop-i g l =
    flat_map g.F.Challenge.ChallengeOf.coefficients l.found.items ≡ take (l.i * g.F.Challenge.ChallengeOf.DEGREE) l.coefficients.items
