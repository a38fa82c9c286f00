use Rattle.std.proofs.Common.{◌≡◌, ℕ, ◌+◌, ◌-◌, length, take, drop, sym, ap, subst, ◌∙◌, arith}
use Rattle.std.proofs.lemmas.List.{get_or-drop, get_or-take, length-drop, length-take-le}
use Rattle.std.proofs.lemmas.Result.{IfOk-weaker}
use Rattle.ark_bit_reversed.specs.Blocks.{AreValuesFrom, IsPowerOfTwo, element_of}
use Rattle.ark_bit_reversed.proofs.Callers.Runs.{values-product}
use Rattle.ark_math.specs.Univariate.{IsBelow, of_list, product}
use Rattle.ark_math.proofs.Lists.Lists.{written_back}
use Rattle.ark_math_polynomials.proofs.Polynomials.Univariate.{same_below}
use Rattle.ark_math_polynomials.proofs.Polynomials.UnivariateLists.{of_list-past}
use Rattle.ark_subproducts.specs.Tree.{Represents}
use Rattle.ark_subproducts.proofs.BlockWraps.{wrapped_past}
use Rattle.ark_bit_reversed.proofs.Callers.PowersOfTwo.{twice_is_power}
use Rattle.ark_subproducts.proofs.blocks.middle_coefficients.Goals as goal

pub interpolate-requires-clause-power : goal.interpolate-requires-clause-power
interpolate-requires-clause-power g c =
    let part = c.args.part.now in
    subst IsPowerOfTwo (sym (ap length c.as_mut_slice.ensures.value ∙ c.in_ok-coeffs.ensures.len ∙ c.requires.middle.factor)) (twice_is_power part.count c.requires.part.power)

pub returns-clause-middle : goal.returns-clause-middle
returns-clause-middle g c =
    let K = g.F.Field.field in
    let N = g.met.F.Field.field_laws in
    let part = c.args.part.now in
    let roots = part.blocks.now in
    let x = element_of K roots in
    let factor = c.args.factor.now in
    let items = c.args.given.now.items.items in
    let end = c.args.given.now.end in
    let len = length part.points.now in
    let start = end - len in
    let count = part.count in
    let n = count + count in
    let order = c.requires.middle.start in
    let room = c.requires.middle.end in
    let w = c.as_mut_slice.result.now in
    let made = c.interpolate.new.values in
    let value = c.as_mut_slice.ensures.value in
    let all_w : length w ≡ n = ap length value ∙ c.in_ok-coeffs.ensures.len ∙ c.requires.middle.factor in
    let size : length made ≡ n = c.interpolate.ensures.len ∙ all_w in
    let coeffs = c.deref-2.result.now in
    let all : coeffs ≡ made = c.deref-2.ensures.value ∙ written_back made _ c.in_ok-coeffs.coeffs.len (omega (arith, c.interpolate.ensures.len, c.as_mut_slice.ensures.len)) in
    let cut = take (end - start) (drop start coeffs) in
    let cut_len : length cut ≡ end - start = length-take-le (end - start) (drop start coeffs) (omega (arith, length-drop start coeffs, ap length all, size, room)) in
    let only : (r : ℕ → g.row.F.Denot) → IsBelow K n r → AreValuesFrom K x 0 n r w → of_list K made ≡ r = λ r below V.
    c.interpolate.ensures.coefficients r (subst (λ t. IsBelow K t r) (sym all_w) below) (subst (λ t. AreValuesFrom K x 0 t r w) (sym all_w) V) in
    IfOk-weaker c.represented.result _ _
    (λ v h a s t A S middle.
    let W : AreValuesFrom K x 0 n (product K a s) w =
    values-product K N x 0 n a s factor items w A S all_w
    (λ i l. ap (λ t. of_list K t i) value ∙ c.in_ok-coeffs.ensures.products i (omega (arith, l, c.requires.middle.factor)) ∙ ap (λ v. K.times (of_list K factor i) (of_list K v i)) c.deref.ensures.value) in
    subst (λ u. Represents K roots c.args.tree.now count u v.items)
    (same_below K len (of_list K cut) t (λ i l. of_list-past K cut i (omega (arith, l, cut_len, order))) middle.below
    (λ i l.
    get_or-take (end - start) (drop start coeffs) i K.zero (omega (arith, l, order))
    ∙ get_or-drop start coeffs i K.zero
    ∙ ap (λ u. of_list K u (start + i)) all
    ∙ wrapped_past K N _ n start x (product K a s) w (of_list K made) c.interpolate.ensures.elements (twice_is_power count c.requires.part.power) c.requires.middle.within (omega (arith, room)) middle.short W only (start + i) (omega arith) (omega (arith, l, order, room))
    ∙ sym (middle.items i l)))
    h)
    c.represented.ensures.given
