use Rattle.std.proofs.Common.{◌≡◌, ◌+◌, ◌-◌, length, drop, ap, ◌∙◌, arith}
use Rattle.ark_math.specs.Univariate.{of_list, product}
use Rattle.ark_math_polynomials.proofs.Polynomials.UnivariateLists.{of_list-past}
use Rattle.ark_math.proofs.Lists.Lists.{tail, written_back}
use Rattle.ark_subproducts.proofs.UpperParts.{past, past-drop, product-past}
use Rattle.ark_subproducts.proofs.products.coefficients_past.Goals as goal

pub returns-clause-past : goal.returns-clause-past
returns-clause-past g c i =
    let K = g.F.Field.field in
    let N = g.met.F.Field.field_laws in
    let xs = c.args.left.now in
    let ys = c.args.right.now in
    let degree = length ys - 1 in
    let below = c.args.start - degree in
    let upper : of_list K c.as_mut_slice.result.now ≡ past below (of_list K xs) =
    ap (of_list K) (c.as_mut_slice.ensures.value ∙ c.in_ok-upper.ensures.items ∙ tail xs c.min.result)
    ∙ ap (λ n. of_list K (drop n xs)) c.min.ensures
    ∙ past-drop K N xs below in
    let place : below + (degree + i) ≡ c.args.start + i = omega (arith, c.requires.right, c.requires.few) in
    ap (λ t. of_list K t i) (written_back c.multiply_upper.new.coeffs _ _ (omega (arith, c.multiply_upper.auto.coeffs, c.as_mut_slice.ensures.len)))
    ∙ c.multiply_upper.ensures i
    ∙ ap (λ a. product K a (of_list K ys) (degree + i)) upper
    ∙ product-past K N below degree i (of_list K xs) (of_list K ys) (λ k l. of_list-past K ys k (omega (arith, l)))
    ∙ ap (product K (of_list K xs) (of_list K ys)) place
