use Rattle.std.proofs.Common.{◌≡◌, ◌+◌, ◌*◌}
use Rattle.ark_math_polynomials.proofs.Polynomials.UnivariateValues.{value_from}
use Rattle.ark_coeffs.proofs.dense.value_at.Given as goal

abbrev pub invariant-loop-k : goal.invariant-loop-k
invariant-loop-k g l = l.value ≡ value_from g.F.Field.field l.coeffs l.point (l.rest + 4 * l.k)

abbrev pub invariant-loop-i : goal.invariant-loop-i
invariant-loop-i g l = l.value ≡ value_from g.F.Field.field l.coeffs l.point l.i
