use Rattle.ark_math_points.specs.AtPoints.{AreDifferent}
use Rattle.ark_words.specs.Numbers.{number_at}
use Rattle.ark_words.proofs.interpolations.has_repeated.Given as goal

abbrev pub invariant-loop-i : goal.invariant-loop-i
invariant-loop-i g l = AreDifferent l.i (number_at g.F.WordElement.WIDTH l.words)
