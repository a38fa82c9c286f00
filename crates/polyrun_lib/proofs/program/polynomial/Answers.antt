use Rattle.ark_numbers.proofs.Values.{number_field, coefficients_of}
use Rattle.polyrun_lib.proofs.program.polynomial.Goals as goal

pub returns : goal.returns
returns g c xs spelled =
    let F = g.F.PrimeNumbers in
    let laws = g.met.F.PrimeNumbers in
    let S = number_field F.numbering F.prime laws.field_law laws.generator_law laws.root_law g.met.F.FftField.roots_law in
    coefficients_of S xs c.in_ok-elements.field-0.items c.from_coefficients_vec.result (c.in_ok-elements.ensures xs spelled)
    c.from_coefficients_vec.ensures.coefficients c.from_coefficients_vec.ensures.trimmed
