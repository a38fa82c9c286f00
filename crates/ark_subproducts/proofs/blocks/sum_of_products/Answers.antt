use Rattle.std.proofs.Common.{◌≡◌, ℕ, ◌<◌, List, length, sym, ap, ap₂, subst, subst₂, ◌∙◌, arith}
use Rattle.ark_bit_reversed.specs.Blocks.{AreFirstValues, element_of}
use Rattle.ark_math.specs.Univariate.{IsBelow, added, of_list, product}
use Rattle.ark_math.proofs.Lists.Lists.{written_back}
use Rattle.ark_subproducts.proofs.BlockWraps.{values_of_sums}
use Rattle.ark_subproducts.proofs.blocks.sum_of_products.Goals as goal

pub returns-clause-sum : goal.returns-clause-sum
returns-clause-sum g c =
    let K = g.F.Field.field in
    let N = g.met.F.Field.field_laws in
    let table = c.args.blocks.now in
    let x = element_of K table in
    let first = c.args.first.values.items in
    let second = c.args.second.values.items in
    let n = length first in
    let own = c.as_mut_slice-items.ensures.value in
    let sums = c.add_products.new.items in
    let made = c.interpolate.new.values in
    let w = c.as_mut_slice.result.now in
    let size : length sums ≡ n = c.add_products.ensures.len ∙ c.multiply_each.auto.items ∙ ap length own in
    let all : length sums ≡ c.args.first.values.len = omega (arith, c.add_products.ensures.len, c.multiply_each.auto.items, c.as_mut_slice-items.ensures.len) in
    let every : length made ≡ c.in_ok-coeffs.coeffs.len = omega (arith, c.interpolate.ensures.len, c.as_mut_slice.ensures.len) in
    let kept = written_back sums _ c.args.first.values.len all in
    let back = written_back made _ c.in_ok-coeffs.coeffs.len every in
    let copy : w ≡ sums = c.as_mut_slice.ensures.value ∙ c.in_ok-coeffs.ensures.items ∙ c.deref-2.ensures.value ∙ kept in
    let all_values : (a : ℕ → g.row.F.Denot) (v : List g.row.F.Denot) → AreFirstValues K table (length second) a v → AreFirstValues K table n a v = λ a v h. subst (λ m. AreFirstValues K table m a v) c.requires.second h in
    λ f a s b left right below.
    let whole : ℕ → g.row.F.Denot = added K (product K f a) (product K s b) in
    let W : AreFirstValues K table n whole sums =
    values_of_sums K N x n f a s b first c.args.first.factor.now second c.args.second.factor.now sums left.own left.factor (all_values s second right.own) (all_values b c.args.second.factor.now right.factor) size
    (λ i l.
    let inside = subst (λ t. i < t) (sym (ap length own)) l in
    c.add_products.ensures.sums i (omega (arith, inside, c.multiply_each.auto.items))
    ∙ ap₂ (λ t u. K.plus t (K.times (of_list K u i) (of_list K c.args.second.factor.now i)))
    (c.multiply_each.ensures i ∙ ap (λ t. K.times (of_list K t i) (of_list K c.args.first.factor.now i)) own)
    c.deref.ensures.value) in
    let len : n ≡ length w = sym (ap length copy ∙ size) in
    let coeffs =
    ap (of_list K) back
    ∙ c.interpolate.ensures.coefficients whole (subst (λ t. IsBelow K t whole) len below) (subst₂ (λ t v. AreFirstValues K table t whole v) len (sym copy) W) in
    (coeffs, subst₂ (λ p v. AreFirstValues K table n p v) (sym coeffs) (sym kept) W)
