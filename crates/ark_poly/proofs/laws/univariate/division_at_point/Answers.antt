use Rattle.std.proofs.Common.{◌∙◌, sym, subst}
use Rattle.ark_math.specs.Univariate.{of_list, IsQuotient}
use Rattle.ark_math_polynomials.proofs.Callers.Remainders.{linear_not_zero, one_quotient_at, remainder_is_value, whole_at}
use Rattle.ark_poly.proofs.laws.univariate.division_at_point.Goals as goal

pub quotient_and_remainder-requires : goal.quotient_and_remainder-requires
quotient_and_remainder-requires g c e = linear_not_zero g.F.Field.field g.met.F.Field.field_laws c.args.point (sym c.in_ok-divisor.ensures.same ∙ e)

pub returns-clause-remainder : goal.returns-clause-remainder
returns-clause-remainder g c =
    let K = g.F.Field.field in
    let a = of_list K c.args.polynomial.now in
    let q = of_list K c.in_ok-quotient.quotient in
    let r = of_list K c.in_ok-quotient.remainder in
    let division = subst (λ d. IsQuotient K a d q r) c.in_ok-divisor.ensures.same c.in_ok-quotient.ensures.division in
    remainder_is_value K g.met.F.Field.field_laws a q r c.args.point c.in_ok-value.value division c.in_ok-value.ensures.value

pub returns-clause-quotient : goal.returns-clause-quotient
returns-clause-quotient g c =
    let K = g.F.Field.field in
    let a = of_list K c.args.polynomial.now in
    let q = of_list K c.in_ok-quotient.quotient in
    let r = of_list K c.in_ok-quotient.remainder in
    let division = subst (λ d. IsQuotient K a d q r) c.in_ok-divisor.ensures.same c.in_ok-quotient.ensures.division in
    whole_at K g.met.F.Field.field_laws a q r c.args.point c.in_ok-value.value division c.in_ok-value.ensures.value

pub returns-clause-only : goal.returns-clause-only
returns-clause-only g c p n finite whole =
    let K = g.F.Field.field in
    let a = of_list K c.args.polynomial.now in
    let q = of_list K c.in_ok-quotient.quotient in
    let r = of_list K c.in_ok-quotient.remainder in
    let division = subst (λ d. IsQuotient K a d q r) c.in_ok-divisor.ensures.same c.in_ok-quotient.ensures.division in
    one_quotient_at K g.met.F.Field.field_laws a q r p n c.args.point c.in_ok-value.value division finite whole
