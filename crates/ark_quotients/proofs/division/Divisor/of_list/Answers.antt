use Rattle.std.proofs.Common.{length, ap, arith}
use Rattle.std.proofs.lemmas.Bool.{true≢false}
use Rattle.ark_math_polynomials.proofs.Polynomials.UnivariateLists.{trimmed_nothing}
use Rattle.ark_quotients.proofs.division.Divisor.of_list.Goals as goal

pub returns-clause-none : goal.returns-clause-none
returns-clause-none g c = (
  (λ e. absurd (true≢false e)),
  λ e.
      let none = ap length (trimmed_nothing g.F.Field.field c.args.coeffs.now c.requires e) in
      absurd (omega (arith, none, c.in_ok-leading.ensures.cases.1)),
)
