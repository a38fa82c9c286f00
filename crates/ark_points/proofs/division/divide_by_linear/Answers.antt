use Rattle.std.proofs.Common.{◌≡◌, ◌+◌, length, sym, ap, subst, ◌∙◌, arith, ℕ}
use Rattle.ark_math_polynomials.specs.Linear.{constant}
use Rattle.ark_math.specs.Univariate.{IsValue, of_list}
use Rattle.ark_math_polynomials.proofs.Callers.Remainders.{one_quotient_at}
use Rattle.ark_math.proofs.Lists.Lists.{written_back}
use Rattle.ark_math_polynomials.proofs.Polynomials.UnivariateLists.{of_list-below}
use Rattle.ark_math_polynomials.proofs.Polynomials.UnivariateValues.{value_from, value-of_list}
use Rattle.ark_math_polynomials.proofs.Polynomials.LinearQuotients.{divided, divided_quotient}
use Rattle.ark_points.proofs.division.divide_by_linear.Goals as goal

pub returns-clause-value : goal.returns-clause-value
returns-clause-value g c =
    let K = g.F.Field.field in
    let N = g.met.F.Field.field_laws in
    let xs = c.args.polynomial.now in
    let z = c.args.point in
    let v = c.divide_in_place-value.result in
    let ys = c.divide_in_place-value.new.coeffs in
    let before : c.as_mut_slice.result.now ≡ xs = c.as_mut_slice.ensures.value ∙ c.in_ok-coeffs.ensures.items ∙ c.coeffs.ensures.same in
    let after : of_list K c.from_coefficients_vec.result ≡ of_list K ys =
    c.from_coefficients_vec.ensures.coefficients ∙ ap (of_list K) (written_back ys _ _ (omega (arith, c.divide_in_place-value.auto.coeffs, c.as_mut_slice.ensures.len))) in
    let value : v ≡ value_from K xs z 0 = c.divide_in_place-value.ensures.value ∙ ap (λ t. value_from K t z 0) before in
    let quotient : (i : ℕ) → of_list K c.from_coefficients_vec.result i ≡ value_from K xs z (i + 1) =
    λ i. ap (λ t. t i) after ∙ c.divide_in_place-value.ensures.quotient i ∙ ap (λ t. value_from K t z (i + 1)) before in
    let q = of_list K c.from_coefficients_vec.result in
    let whole = divided K N xs q z v quotient value in
    let is : IsValue K (of_list K xs) z v = subst (IsValue K (of_list K xs) z) (sym value) (value-of_list K N xs z) in
    is

pub returns-clause-quotient : goal.returns-clause-quotient
returns-clause-quotient g c =
    let K = g.F.Field.field in
    let N = g.met.F.Field.field_laws in
    let xs = c.args.polynomial.now in
    let z = c.args.point in
    let v = c.divide_in_place-value.result in
    let ys = c.divide_in_place-value.new.coeffs in
    let before : c.as_mut_slice.result.now ≡ xs = c.as_mut_slice.ensures.value ∙ c.in_ok-coeffs.ensures.items ∙ c.coeffs.ensures.same in
    let after : of_list K c.from_coefficients_vec.result ≡ of_list K ys =
    c.from_coefficients_vec.ensures.coefficients ∙ ap (of_list K) (written_back ys _ _ (omega (arith, c.divide_in_place-value.auto.coeffs, c.as_mut_slice.ensures.len))) in
    let value : v ≡ value_from K xs z 0 = c.divide_in_place-value.ensures.value ∙ ap (λ t. value_from K t z 0) before in
    let quotient : (i : ℕ) → of_list K c.from_coefficients_vec.result i ≡ value_from K xs z (i + 1) =
    λ i. ap (λ t. t i) after ∙ c.divide_in_place-value.ensures.quotient i ∙ ap (λ t. value_from K t z (i + 1)) before in
    let q = of_list K c.from_coefficients_vec.result in
    let whole = divided K N xs q z v quotient value in
    let is : IsValue K (of_list K xs) z v = subst (IsValue K (of_list K xs) z) (sym value) (value-of_list K N xs z) in
    whole

pub returns-clause-only : goal.returns-clause-only
returns-clause-only g c =
    let K = g.F.Field.field in
    let N = g.met.F.Field.field_laws in
    let xs = c.args.polynomial.now in
    let z = c.args.point in
    let v = c.divide_in_place-value.result in
    let ys = c.divide_in_place-value.new.coeffs in
    let before : c.as_mut_slice.result.now ≡ xs = c.as_mut_slice.ensures.value ∙ c.in_ok-coeffs.ensures.items ∙ c.coeffs.ensures.same in
    let after : of_list K c.from_coefficients_vec.result ≡ of_list K ys =
    c.from_coefficients_vec.ensures.coefficients ∙ ap (of_list K) (written_back ys _ _ (omega (arith, c.divide_in_place-value.auto.coeffs, c.as_mut_slice.ensures.len))) in
    let value : v ≡ value_from K xs z 0 = c.divide_in_place-value.ensures.value ∙ ap (λ t. value_from K t z 0) before in
    let quotient : (i : ℕ) → of_list K c.from_coefficients_vec.result i ≡ value_from K xs z (i + 1) =
    λ i. ap (λ t. t i) after ∙ c.divide_in_place-value.ensures.quotient i ∙ ap (λ t. value_from K t z (i + 1)) before in
    let q = of_list K c.from_coefficients_vec.result in
    let whole = divided K N xs q z v quotient value in
    let is : IsValue K (of_list K xs) z v = subst (IsValue K (of_list K xs) z) (sym value) (value-of_list K N xs z) in
    λ p n below same. one_quotient_at K N (of_list K xs) q (constant K v) p n z v (divided_quotient K N (of_list K xs) q (length c.from_coefficients_vec.result) z v (of_list-below K c.from_coefficients_vec.result) whole) below same
