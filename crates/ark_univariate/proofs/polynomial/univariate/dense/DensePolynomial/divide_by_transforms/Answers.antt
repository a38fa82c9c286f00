use Rattle.std.proofs.Common.{◌≡◌, [], true≢false, refl, ap, ◌∙◌}
use Rattle.ark_math.specs.Univariate.{of_list, nothing}
use Rattle.ark_math_polynomials.proofs.Polynomials.Quotients.{division_of, zero_division}
use Rattle.ark_univariate.proofs.polynomial.univariate.dense.DensePolynomial.divide_by_transforms.Goals as goal

pub returns-in-Some-clause-division : goal.returns-in-Some-clause-division
returns-in-Some-clause-division g c =
    let K = g.F.Field.field in
    let p = c.in_ok-divided.field-0 in
    division_of K g.met.F.Field.field_laws (of_list K c.args.self.now) (of_list K c.args.divisor.now) (of_list K p.0) (of_list K p.1) c.in_ok-divided.ensures.division

pub returns-in-Some-clause-none : goal.returns-in-Some-clause-none
returns-in-Some-clause-none g c = ((λ e. cc), (λ h. absurd (true≢false (c.in-Some.ensures.none.1 h.1))))

pub returns-then-is_zero-clause-division : goal.returns-then-is_zero-clause-division
returns-then-is_zero-clause-division g c =
    let K = g.F.Field.field in
    let none : of_list K [] ≡ nothing K = refl in
    zero_division K g.met.F.Field.field_laws (of_list K c.args.self.now) (of_list K c.args.divisor.now) (of_list K c.from_coefficients_vec.result) (of_list K c.from_coefficients_vec-then-is_zero.result)
    (c.in_default.ensures.none.0 refl)
    (c.from_coefficients_vec.ensures.coefficients ∙ ap (of_list K) c.new.ensures.items ∙ none)
    (c.from_coefficients_vec-then-is_zero.ensures.coefficients ∙ ap (of_list K) c.new-then-is_zero.ensures.items ∙ none)
