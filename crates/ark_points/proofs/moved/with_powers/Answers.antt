use Rattle.std.proofs.Common.{◌≡◌, ◌<◌, ◌≤◌, length, sym, ap, ◌∙◌, arith, ⊎_elim}
use mathlib.Core.Path.{fun_ext}
use Rattle.std.proofs.lemmas.Bool.{cases_lt}
use Rattle.ark_math.specs.Field.{power}
use Rattle.ark_math.specs.Univariate.{of_list}
use Rattle.ark_math.proofs.Algebra.Powers.{times_zero}
use Rattle.ark_math.proofs.Lists.Lists.{written_back}
use Rattle.ark_math_polynomials.proofs.Polynomials.UnivariateLists.{of_list-past}
use Rattle.ark_points.proofs.moved.with_powers.Goals as goal

pub returns : goal.returns
returns g c =
    let K = g.F.Field.field in
    let xs = c.args.polynomial.now in
    let factor = c.args.factor in
    let given : c.as_mut_slice.result.now ≡ xs = c.as_mut_slice.ensures.value ∙ c.in_ok-coeffs.ensures.items ∙ c.coeffs.ensures.same in
    let new = c.scale_by_powers.new.items in
    let len : length new ≡ length xs = c.scale_by_powers.ensures.len ∙ ap length given in
    c.from_coefficients_vec.ensures.coefficients
    ∙ ap (of_list K) (written_back new _ _ (omega (arith, c.scale_by_powers.ensures.len, c.as_mut_slice.ensures.len)))
    ∙ fun_ext (λ i. ⊎_elim
    (λ (l : i < length xs).
    c.scale_by_powers.ensures.products i (omega (arith, l, ap length given))
    ∙ ap (λ t. K.times (power K factor i) (of_list K t i)) given)
    (λ (m : length xs ≤ i).
    of_list-past K new i (omega (arith, m, len))
    ∙ sym (ap (K.times (power K factor i)) (of_list-past K xs i m) ∙ times_zero K g.met.F.Field.field_laws (power K factor i)))
    (cases_lt i (length xs)))
