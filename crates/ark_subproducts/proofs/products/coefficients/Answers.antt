use Rattle.std.proofs.Common.{◌≡◌, ℕ, ◌+◌, ◌-◌, ◌++◌, length, take, sym, ap, ap₂, subst, ◌∙◌, arith}
use Rattle.ark_bit_reversed.specs.Blocks.{AreValuesFrom, element_of}
use Rattle.ark_math.specs.Field.{minus}
use Rattle.ark_math.specs.Univariate.{IsBelow, of_list, product}
use Rattle.ark_math.proofs.Lists.Lists.{written_back}
use Rattle.ark_math_polynomials.proofs.Polynomials.UnivariateLists.{of_list-below}
use Rattle.ark_math_polynomials.proofs.Polynomials.UnivariateProducts.{product-below}
use Rattle.ark_subproducts.proofs.TableProducts.{truncated, twice_within, unwrapped}
use Rattle.ark_subproducts.proofs.products.coefficients.Goals as goal

pub overflow_add-len : goal.overflow_add-len
overflow_add-len g c =
    let most = twice_within (length c.args.values.now) c.requires.power (omega arith) in
    omega (arith, most, c.requires.room, c.requires.right)

pub returns-clause-product : goal.returns-clause-product
returns-clause-product g c V =
    let K = g.F.Field.field in
    let N = g.met.F.Field.field_laws in
    let left = c.args.left.now in
    let right = c.args.right.now in
    let values = c.args.values.now in
    let n = length values in
    let count = length left + (length right - 1) in
    let p = product K (of_list K left) (of_list K right) in
    let x = element_of K c.args.table.now in
    let w = c.as_mut_slice.result.now in
    let made = c.interpolate.new.values in
    let low = c.subtract_each.new.coeffs in
    let high = c.in_ok-upper.upper.items in
    let copy : w ≡ values = c.as_mut_slice.ensures.value ∙ c.in_ok-extend_from_slice.ensures.items ∙ ap (λ t. t ++ values) c.in_ok-coeffs.ensures.items in
    let back : c.as_mut_slice-2.result.now ≡ made =
    c.as_mut_slice-2.ensures.value ∙ written_back made _ _ (omega (arith, c.interpolate.ensures.len, c.as_mut_slice.ensures.len)) in
    let len : length low ≡ n = c.subtract_each.auto.coeffs ∙ ap length back ∙ c.interpolate.ensures.len ∙ ap length copy in
    let all = c.in_ok-extend_from_slice-2.ensures.items ∙ ap₂ (λ s t. s ++ t) (written_back low _ _ (omega (arith, c.subtract_each.auto.coeffs, c.as_mut_slice-2.ensures.len))) c.deref-2.ensures.value in
    let below : IsBelow K count p = λ i l.
    product-below K N (length left) (length right) (of_list K left) (of_list K right) (of_list-below K left) (of_list-below K right) i (omega (arith, l)) in
    let only : (r : ℕ → g.row.F.Denot) → IsBelow K n r → AreValuesFrom K x 0 n r values → of_list K made ≡ r = λ r short R.
    c.interpolate.ensures.coefficients r (subst (λ t. IsBelow K t r) (sym (ap length copy)) short) (subst (λ t. AreValuesFrom K x 0 (length t) r t) (sym copy) R) in
    let whole : of_list K (low ++ high) ≡ p = unwrapped K N _ n x p values made low high c.interpolate.ensures.elements c.requires.power c.requires.within
    (λ i l. below i (omega (arith, l, c.requires.room, c.requires.right))) V only len
    (λ i l.
    ap (λ t. t i) c.subtract_each.ensures
    ∙ ap₂ (λ s t. minus K (of_list K s i) (of_list K t i)) back c.deref.ensures.value)
    c.in_ok-upper.ensures.past in
    ap (of_list K) (c.truncate.ensures.items ∙ ap (take count) all) ∙ truncated K N count p (low ++ high) below whole
