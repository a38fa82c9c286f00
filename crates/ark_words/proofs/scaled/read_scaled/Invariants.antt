use Rattle.std.proofs.Common.{◌≡◌, map}
use Rattle.ark_math.specs.Module.{tabulate}
use Rattle.ark_words.specs.Numbers.{number_at}
use Rattle.ark_words.proofs.scaled.read_scaled.Given as goal

abbrev pub invariant-loop-i : goal.invariant-loop-i
invariant-loop-i g l =
    map (λ x. g.F.PrimeNumbers.numbering.number (g.F.Field.field.times g.F.WordElement.unit x)) l.items.items ≡ tabulate l.i (number_at g.F.WordElement.WIDTH l.words)
