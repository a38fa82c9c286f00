use Rattle.std.proofs.Common.{◌≡◌}
use Rattle.ark_math.specs.Field.{minus}
use Rattle.ark_math.specs.Univariate.{of_list}
use Rattle.ark_math_polynomials.proofs.Polynomials.UnivariateLoops.{zipped}
use Rattle.ark_tables.proofs.tables.bind_halves.Given as goal

abbrev pub invariant-loop-i : goal.invariant-loop-i
invariant-loop-i g l =
    let K = g.F.Field.field in
    of_list K l.low ≡ zipped (λ a b. K.plus a (K.times l.x (minus K b a))) l.i (of_list K l.initial.low) (of_list K l.high)
