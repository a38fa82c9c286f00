use Rattle.std.proofs.Common.{ℕ}
use Rattle.ark_math.specs.Univariate.{of_list}
use Rattle.ark_quotients.proofs.LongDivision.{IsDivided}
use Rattle.ark_quotients.specs.Divisors.{Divides}
use Rattle.ark_quotients.proofs.division.Divisor.divide.Given as goal

abbrev pub invariant-loop-i : goal.invariant-loop-i
invariant-loop-i g l =
    let K = g.F.Field.field in
    (d : ℕ → g.row.F.Denot) → Divides K l.self d → IsDivided K d l.self.degree l.i (of_list K l.initial.coeffs) (of_list K l.coeffs)
