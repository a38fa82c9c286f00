use Rattle.std.proofs.Common.{◌≡◌, ◌<◌, ℕ, map, get_or}
use Rattle.ark_words.specs.Numbers.{number_at}
use Rattle.ark_word_sums.proofs.words.put_challenge.Given as goal

abbrev pub invariant-loop-i : goal.invariant-loop-i
invariant-loop-i g l =
    (k : ℕ) → k < l.i → number_at g.F.WordElement.WIDTH l.words k ≡ get_or (map g.F.PrimeNumbers.numbering.number (g.F.Challenge.ChallengeOf.coefficients l.challenge)) k 0
