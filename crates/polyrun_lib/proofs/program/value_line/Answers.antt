use Rattle.std.proofs.Common.{inl, inr, refl}
use Rattle.ark_math_polynomials.proofs.Polynomials.UnivariateValues.{value_of_list}
use Rattle.polyrun_lib.specs.Commands.{value_of}
use Rattle.ark_numbers.proofs.Values.{number_field, shown_field}
use Rattle.polyrun_lib.proofs.Values.{outcome_line, outcome_error, gives_value}
use Rattle.polyrun_lib.proofs.program.value_line.Goals as goal

pub returns-in_err-elements : goal.returns-in_err-elements
returns-in_err-elements g c xs x listed spelled =
    let F = g.F.PrimeNumbers in
    let laws = g.met.F.PrimeNumbers in
    let S = number_field F.numbering F.prime laws.field_law laws.generator_law laws.root_law g.met.F.FftField.roots_law in
    outcome_error (shown_field S) (value_of xs x) _ _ c.from_residual.ensures.1 (inr (inl (_, refl), refl))

pub returns : goal.returns
returns g c xs x listed spelled =
    let F = g.F.PrimeNumbers in
    let laws = g.met.F.PrimeNumbers in
    let S = number_field F.numbering F.prime laws.field_law laws.generator_law laws.root_law g.met.F.FftField.roots_law in
    let items = c.in_ok-elements.field-0.items in
    let value = c.in_ok-value.value in
    outcome_line (shown_field S) (value_of xs x) _ _
    (gives_value S xs x items c.element.result value (c.in_ok-elements.ensures xs listed) (c.element.ensures x spelled)
    (value_of_list g.F.Field.field g.met.F.Field.field_laws _ items c.element.result value c.from_coefficients_vec-polynomial.ensures.coefficients c.in_ok-value.ensures.value))
    c.value_text.ensures.text c.value_text.ensures.memory
