use Rattle.std.proofs.Common.{ap, sym, ◌∙◌, inl, inr, refl}
use Rattle.ark_math_variables.specs.Multilinear.{extension}
use Rattle.polyrun_lib.specs.Commands.{extension_of}
use Rattle.ark_numbers.proofs.Values.{number_field, shown_field, as_many}
use Rattle.polyrun_lib.proofs.Values.{outcome_line, outcome_error, gives_extension}
use Rattle.polyrun_lib.proofs.program.extension_line.Goals as goal

pub returns-in_err-evaluations : goal.returns-in_err-evaluations
returns-in_err-evaluations g c xs x listed spelled =
    let F = g.F.PrimeNumbers in
    let laws = g.met.F.PrimeNumbers in
    let S = number_field F.numbering F.prime laws.field_law laws.generator_law laws.root_law g.met.F.FftField.roots_law in
    outcome_error (shown_field S) (extension_of c.args.num_vars xs x) _ _ c.from_residual.ensures.1 (inr (inl (_, refl), refl))

pub returns-in_err-point : goal.returns-in_err-point
returns-in_err-point g c xs x listed spelled =
    let F = g.F.PrimeNumbers in
    let laws = g.met.F.PrimeNumbers in
    let S = number_field F.numbering F.prime laws.field_law laws.generator_law laws.root_law g.met.F.FftField.roots_law in
    outcome_error (shown_field S) (extension_of c.args.num_vars xs x) _ _ c.from_residual-in_err-point.ensures.1 (inr (inl (_, refl), refl))

pub returns : goal.returns
returns g c xs x listed spelled =
    let F = g.F.PrimeNumbers in
    let laws = g.met.F.PrimeNumbers in
    let S = number_field F.numbering F.prime laws.field_law laws.generator_law laws.root_law g.met.F.FftField.roots_law in
    let items = c.in_ok-evaluations.evaluations.items in
    let point = c.in_ok-point.point.items in
    let value = c.in_ok-value.value in
    outcome_line (shown_field S) (extension_of c.args.num_vars xs x) _ _
    (gives_extension S c.args.num_vars xs x items point value (c.in_ok-evaluations.ensures xs listed) (c.in_ok-point.ensures x spelled)
    (c.in_ok-value.ensures.value ∙ ap (λ t. extension g.F.Field.field t point) c.from_evaluations_vec-extension.ensures.values))
    c.value_text.ensures.text c.value_text.ensures.memory

pub from_evaluations_vec-extension-requires-clause-whole : goal.from_evaluations_vec-extension-requires-clause-whole
from_evaluations_vec-extension-requires-clause-whole g c =
    let F = g.F.PrimeNumbers in
    let laws = g.met.F.PrimeNumbers in
    let S = number_field F.numbering F.prime laws.field_law laws.generator_law laws.root_law g.met.F.FftField.roots_law in
    as_many S c.requires.0 c.in_ok-evaluations.evaluations.items (c.in_ok-evaluations.ensures c.requires.0 c.requires.2)
    ∙ c.requires.4.1

pub evaluate-requires : goal.evaluate-requires
evaluate-requires g c =
    let F = g.F.PrimeNumbers in
    let laws = g.met.F.PrimeNumbers in
    let S = number_field F.numbering F.prime laws.field_law laws.generator_law laws.root_law g.met.F.FftField.roots_law in
    as_many S c.requires.1 c.in_ok-point.point.items (c.in_ok-point.ensures c.requires.1 c.requires.3)
    ∙ c.requires.4.2 ∙ sym c.from_evaluations_vec-extension.ensures.variables
