use Rattle.std.proofs.Common.{◌≡◌, map}
use Rattle.ark_math.specs.Univariate.{of_list}
use Rattle.ark_math_variables.proofs.Polynomials.Multilinear.{bound}
use Rattle.ark_math_polynomials.proofs.Polynomials.UnivariateLoops.{zipped}
use Rattle.ark_extensions.proofs.embedded.bind_pairs.Given as goal

abbrev pub invariant-loop-i : goal.invariant-loop-i
invariant-loop-i g l =
    let K = g.E.Field.field in
    of_list K l.half ≡ zipped (λ _ y. y) l.i (of_list K l.initial.half) (bound K (of_list K (map g.E.ExtensionOf.within l.table)) l.x)
