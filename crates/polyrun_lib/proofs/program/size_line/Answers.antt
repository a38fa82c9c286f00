use Rattle.std.proofs.Common.{◌≡◌, [], ◌∷◌, inl, inr, refl, subst}
use Rattle.polyrun_lib.specs.Lines.{line_of}
use Rattle.polyrun_lib.specs.Commands.{size_for}
use Rattle.polyrun_lib.specs.Outcome.{IsOutcome}
use Rattle.polyrun_lib.proofs.Reading.{IsDecimal-same}
use Rattle.ark_numbers.proofs.Values.{number_field, shown_field}
use Rattle.polyrun_lib.proofs.Values.{outcome_error}
use Rattle.polyrun_lib.proofs.program.size_line.Goals as goal

pub returns-in_err-number_line : goal.returns-in_err-number_line
returns-in_err-number_line g c k spelled =
    let F = g.F.PrimeNumbers in
    let laws = g.met.F.PrimeNumbers in
    let S = number_field F.numbering F.prime laws.field_law laws.generator_law laws.root_law g.met.F.FftField.roots_law in
    let n = c.in_ok-num_coeffs.num_coeffs in
    let given : n ≡ k = IsDecimal-same c.args.num_coeffs.now n k (rw c.in_ok-num_coeffs.ensures.ok_part at c.number.ensures.some) spelled in
    let chosen = rw c.in_ok-size.ensures.ok_part at c.compute_size_of_domain-size.ensures.size in
    subst (λ m. IsOutcome (shown_field S) (size_for m) c.from_residual-in_err-number_line.result) given
    (outcome_error (shown_field S) (size_for n) _ _ c.from_residual-in_err-number_line.ensures.1
    (inr (inl (line_of (c.in_ok-size.size ∷ []), (chosen.0, c.in_ok-size.size, chosen.1, refl)), refl)))
