use Rattle.std.proofs.Common.{subst}
use Rattle.ark_math.specs.Univariate.{of_list, IsTrimmed}
use Rattle.polyrun_lib.proofs.Values.{quotient_or_zeros}
use Rattle.polyrun_lib.proofs.program.divided.Goals as goal

pub returns-clause-quotient : goal.returns-clause-quotient
returns-clause-quotient g c =
    let K = g.F.Field.field in
    let division = rw c.in-Some.is at c.in_ok-pair.ensures.division in
    let none = rw c.in-Some.is at c.in_ok-pair.ensures.none in
    quotient_or_zeros K c.args.dividend.now c.args.divisor.now _ _ (of_list K c.in-Some.pair.0) (of_list K c.in-Some.pair.1)
    (subst (IsTrimmed K) c.coeffs.ensures.same c.coeffs.ensures.trimmed) (subst (IsTrimmed K) c.coeffs-2.ensures.same c.coeffs-2.ensures.trimmed)
    c.from-dividend.ensures.0 c.from-divisor.ensures.0 division.quotient division.zeros (λ refused. let same = none.1 refused in cc)
