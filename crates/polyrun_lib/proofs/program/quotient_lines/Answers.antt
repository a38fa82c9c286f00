use Rattle.std.proofs.Common.{ap, inl, inr, refl, subst, ⊎_elim}
use Rattle.std.specs.Prelude.{Err}
use Rattle.ark_math.specs.Univariate.{IsTrimmed}
use Rattle.polyrun_lib.specs.Commands.{division_of}
use Rattle.ark_numbers.proofs.Values.{number_field, shown_field, no_quotient}
use Rattle.polyrun_lib.proofs.Values.{outcome_line, outcome_error, gives_quotient}
use Rattle.polyrun_lib.proofs.program.quotient_lines.Goals as goal

pub returns-in_err-dividend : goal.returns-in_err-dividend
returns-in_err-dividend g c xs ys left_spelled right_spelled =
    let F = g.F.PrimeNumbers in
    let laws = g.met.F.PrimeNumbers in
    let S = number_field F.numbering F.prime laws.field_law laws.generator_law laws.root_law g.met.F.FftField.roots_law in
    outcome_error (shown_field S) (division_of xs ys) _ _ c.from_residual.ensures.1 (inr (inr (xs, ys, inr refl), refl))

pub returns-in_err-divisor : goal.returns-in_err-divisor
returns-in_err-divisor g c xs ys left_spelled right_spelled =
    let F = g.F.PrimeNumbers in
    let laws = g.met.F.PrimeNumbers in
    let S = number_field F.numbering F.prime laws.field_law laws.generator_law laws.root_law g.met.F.FftField.roots_law in
    outcome_error (shown_field S) (division_of xs ys) _ _ c.from_residual-in_err-divisor.ensures.1 (inr (inr (xs, ys, inr refl), refl))

pub returns-in_err-quotient : goal.returns-in_err-quotient
returns-in_err-quotient g c xs ys left_spelled right_spelled =
    let F = g.F.PrimeNumbers in
    let laws = g.met.F.PrimeNumbers in
    let S = number_field F.numbering F.prime laws.field_law laws.generator_law laws.root_law g.met.F.FftField.roots_law in
    outcome_error (shown_field S) (division_of xs ys) _ _ c.from_residual-in_err-quotient.ensures.1
    (⊎_elim
    (λ memory. inr (inr (xs, ys, inr refl), memory))
    (λ zero.
    let none = c.in_err-quotient.ensures.zero (ap Err zero) in
    inl (no_quotient S xs ys c.in_ok-dividend.dividend c.in_ok-divisor.divisor (c.in_ok-dividend.ensures xs left_spelled) (c.in_ok-divisor.ensures ys right_spelled) none.0 none.1, zero))
    c.in_err-quotient.ensures.errors)

pub returns : goal.returns
returns g c xs ys left_spelled right_spelled =
    let F = g.F.PrimeNumbers in
    let laws = g.met.F.PrimeNumbers in
    let S = number_field F.numbering F.prime laws.field_law laws.generator_law laws.root_law g.met.F.FftField.roots_law in
    let K = g.F.Field.field in
    let quotient = c.in_ok-quotient.quotient in
    let remainder = c.in_ok-quotient.remainder in
    outcome_line (shown_field S) (division_of xs ys) _ _
    (gives_quotient S xs ys c.in_ok-dividend.dividend c.in_ok-divisor.divisor quotient remainder
    (c.in_ok-dividend.ensures xs left_spelled) (c.in_ok-divisor.ensures ys right_spelled)
    (subst (IsTrimmed K) c.coeffs.ensures.same c.coeffs.ensures.trimmed) (subst (IsTrimmed K) c.coeffs-2.ensures.same c.coeffs-2.ensures.trimmed)
    c.in_ok-quotient.ensures.quotient)
    (rw (← c.coeffs.ensures.same, ← c.coeffs-2.ensures.same) c.two_lines.ensures.text) c.two_lines.ensures.memory
