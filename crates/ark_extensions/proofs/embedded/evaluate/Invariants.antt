use Rattle.std.proofs.Common.{◌≡◌, ◌+◌, ◌*◌, map}
use Rattle.ark_math_polynomials.proofs.Polynomials.UnivariateValues.{value_from}
use Rattle.ark_extensions.proofs.embedded.evaluate.Given as goal

abbrev pub invariant-loop-k : goal.invariant-loop-k
invariant-loop-k g l = l.value ≡ value_from g.E.Field.field (map g.E.ExtensionOf.within l.coeffs) l.point (l.rest + 4 * l.k)

abbrev pub invariant-loop-i : goal.invariant-loop-i
invariant-loop-i g l = l.value ≡ value_from g.E.Field.field (map g.E.ExtensionOf.within l.coeffs) l.point l.i
