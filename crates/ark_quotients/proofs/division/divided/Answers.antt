use Rattle.std.specs.Prelude.{is_ok}
use Rattle.std.proofs.Common.{subst, ap, true≢false}
use Rattle.ark_math.specs.Univariate.{of_list, IsDivision}
use Rattle.ark_math_polynomials.proofs.Polynomials.Quotients.{division_of}
use Rattle.ark_quotients.specs.Divisors.{denoted}
use Rattle.ark_quotients.proofs.division.divided.Goals as goal

pub returns-clause-division : goal.returns-clause-division
returns-clause-division g c =
    let K = g.F.Field.field in
    let d = denoted K c.args.divisor in
    let p = c.in_ok-quotient_and_remainder.field-0 in
    let a = of_list K c.in_ok-coeffs.coeffs.items in
    subst (λ a. IsDivision K a d (of_list K p.0.items) (of_list K p.1.items)) c.in_ok-coeffs.ensures.same
    (division_of K g.met.F.Field.field_laws a d (of_list K p.0.items) (of_list K p.1.items) (c.in_ok-quotient_and_remainder.ensures d c.in-Some.ensures.some))

pub returns-clause-none : goal.returns-clause-none
returns-clause-none g c = ((λ e. cc), (λ h. absurd (true≢false (c.in-Some.ensures.none.1 h.1))))

pub returns-clause-overflow : goal.returns-clause-overflow
returns-clause-overflow g c = ((λ e. absurd (true≢false (ap is_ok e))), (λ h. absurd (true≢false (ap is_ok (c.in_ok-coeffs.ensures.overflow.1 h.1)))))
