use Rattle.std.proofs.Common.{◌≡◌, ◌*◌, ap₂, arith}
use Rattle.ark_word_sums.proofs.element.AnySumNumbers.challenge_width.Goals as goal

pub overflow_mul-result : goal.overflow_mul-result
overflow_mul-result g c =
    let both : c.DEGREE.result * c.WIDTH.result ≡ g.F.Challenge.ChallengeOf.DEGREE * g.F.WordElement.WIDTH =
    ap₂ (λ m n. m * n) c.DEGREE.ensures c.WIDTH.ensures in
    omega (arith, both, g.met.F.SumElement.few_law)
