use Rattle.std.proofs.Common.{◌≡◌, ◌<◌, ℕ, map, get_or}
use Rattle.ark_words.specs.Numbers.{number_at}
use Rattle.ark_words.proofs.scaled.put_scaled.Given as goal

abbrev pub invariant-loop-i : goal.invariant-loop-i
invariant-loop-i g l =
    let F = g.F.PrimeNumbers in
    (k : ℕ) → k < l.i → number_at g.F.WordElement.WIDTH l.words k ≡ get_or (map (λ x. F.numbering.number (g.F.Field.field.times g.F.WordElement.unit x)) l.items) k 0
