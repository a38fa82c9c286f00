use Rattle.std.proofs.Common.{◌≡◌, ◌*◌, map, take}
use Rattle.std.specs.List.{flat_map}
use Rattle.ark_words.specs.Numbers.{numbers}
use Rattle.ark_word_sums.proofs.words.put_challenges.Given as goal

abbrev pub invariant-loop-i : goal.invariant-loop-i
invariant-loop-i g l =
    let width = g.F.WordElement.WIDTH in
    numbers width (take (l.i * (g.F.Challenge.ChallengeOf.DEGREE * width)) l.words)
    ≡ flat_map (λ x. map g.F.PrimeNumbers.numbering.number (g.F.Challenge.ChallengeOf.coefficients x)) (take l.i l.challenges)
