use Rattle.std.proofs.Common.{◌≡◌}
use Rattle.ark_math.specs.Univariate.{of_list}
use Rattle.ark_math_polynomials.proofs.Polynomials.UnivariateLoops.{zipped}
use Rattle.ark_sum_check.proofs.ValuesThrough.{neighbours}
use Rattle.ark_sum_check.proofs.through.along_lines.Given as goal

abbrev pub invariant-loop-i : goal.invariant-loop-i
invariant-loop-i g l =
    let K = g.F.Field.field in
    of_list K l.partials ≡ zipped (λ _ y. y) l.i (of_list K l.initial.partials) (neighbours K l.x l.inverse (of_list K l.initial.partials))
