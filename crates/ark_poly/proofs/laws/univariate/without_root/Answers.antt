use Rattle.std.proofs.Common.{◌≡◌, ◌∙◌, sym, refl, subst, true≢false}
use Rattle.ark_math.specs.Univariate.{of_list, IsQuotient, IsValue}
use Rattle.ark_math_polynomials.proofs.Polynomials.UnivariateValues.{one_value}
use Rattle.ark_math_polynomials.proofs.Callers.Remainders.{divided_root, linear_not_zero, root_divides}
use Rattle.ark_poly.proofs.laws.univariate.without_root.Given as given
use Rattle.ark_poly.proofs.laws.univariate.without_root.Goals.{Then-not-is_zero}
use Rattle.ark_poly.proofs.laws.univariate.without_root.Goals as goal

pub quotient_of-requires : goal.quotient_of-requires
quotient_of-requires g c e = linear_not_zero g.F.Field.field g.met.F.Field.field_laws c.args.point (sym c.in_ok-divisor.ensures.same ∙ e)

-- where the value isn't zero, there is no root
no_root : (g : given.Over) (c : Then-not-is_zero g) → IsValue g.F.Field.field (of_list g.F.Field.field c.args.polynomial.now) c.args.point g.F.Field.field.zero → ⊥
no_root g c root =
    let K = g.F.Field.field in
    let y = c.in_ok-value.value in
    let zero : y ≡ K.zero = one_value K g.met.F.Field.field_laws (of_list K c.args.polynomial.now) c.args.point y K.zero c.in_ok-value.ensures.value root in
    true≢false (sym ((g.met.F.Field.equality_law y g.F.Zero.zero).1 (zero ∙ sym g.met.F.Field.zero_law)) ∙ sym c.is_zero.ensures ∙ c.if-not-is_zero.true)

pub returns-then-not-is_zero-clause-root : goal.returns-then-not-is_zero-clause-root
returns-then-not-is_zero-clause-root g c = ((λ e. absurd (true≢false (sym e))), (λ root. absurd (no_root g c root)))

pub returns-then-not-is_zero-clause-multiple : goal.returns-then-not-is_zero-clause-multiple
returns-then-not-is_zero-clause-multiple g c = (
  (λ e. absurd (true≢false (sym e))),
  λ h. absurd (no_root g c (divided_root g.F.Field.field g.met.F.Field.field_laws (of_list g.F.Field.field c.args.polynomial.now) h.0 h.1 c.args.point h.2 h.3)),
)

pub returns-clause-root : goal.returns-clause-root
returns-clause-root g c =
    let zero = (g.met.F.Field.equality_law _ _).0 (sym c.is_zero.ensures ∙ c.if-not-is_zero.false) ∙ g.met.F.Field.zero_law in
    ((λ _. subst (IsValue g.F.Field.field (of_list g.F.Field.field c.args.polynomial.now) c.args.point) zero c.in_ok-value.ensures.value), (λ _. refl))

pub returns-clause-quotient : goal.returns-clause-quotient
returns-clause-quotient g c =
    let K = g.F.Field.field in
    let a = of_list K c.args.polynomial.now in
    let q = of_list K c.in_ok-quotient_of.field-0 in
    let r = c.in_ok-quotient_of.ensures.division.0 in
    root_divides K g.met.F.Field.field_laws a q r c.args.point
    (subst (λ d. IsQuotient K a d q r) c.in_ok-divisor.ensures.same c.in_ok-quotient_of.ensures.division.1) ((returns-clause-root g c).0 refl)

pub returns-clause-multiple : goal.returns-clause-multiple
returns-clause-multiple g c =
    let finite = c.in_ok-quotient_of.ensures.division.1.finite in
    ((λ _. (of_list g.F.Field.field c.in_ok-quotient_of.field-0, finite.0, finite.1, returns-clause-quotient g c)), (λ _. refl))
