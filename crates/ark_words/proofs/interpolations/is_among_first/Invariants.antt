use Rattle.std.proofs.Common.{◌≢◌, ◌<◌, ℕ}
use Rattle.ark_words.specs.Numbers.{number_at}
use Rattle.ark_words.proofs.interpolations.is_among_first.Given as goal

abbrev pub invariant-loop-i : goal.invariant-loop-i
invariant-loop-i g l = (k : ℕ) → k < l.i → number_at g.F.WordElement.WIDTH l.words k ≢ g.F.PrimeNumbers.numbering.number l.item
