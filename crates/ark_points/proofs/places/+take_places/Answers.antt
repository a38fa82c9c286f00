use Rattle.std.proofs.Common.{◌+◌, ◌*◌, ◌/◌, ◌<◌, length, get_or, rules, sym, ap, ap₂, ◌∙◌, arith}
use Rattle.std.proofs.Math.Nat.{div-lt_self}
use Rattle.std.proofs.lemmas.Nat.{le-div}
use Rattle.ark_math.specs.Field.{power}
use Rattle.ark_math.specs.Univariate.{of_list}
use Rattle.ark_math.proofs.Algebra.Powers.{powers_inverse}
use Rattle.ark_math.proofs.Lists.Lists.{written_back}
use Rattle.ark_points.proofs.Digits.{lowest_digit}
use Rattle.ark_points.proofs.places.+take_places.Goals as goal

pub take_places-requires : goal.take_places-requires
take_places-requires g t c κs within =
    let K = g.F.Field.field in
    let N = g.met.F.Field.field_laws in
    let base = c.base_of-base.result in
    let less : c.args.size / base < c.args.size = div-lt_self c.requires.some c.base_of-base.ensures.more in (
      omega (arith, less),
      (
        search rules,
        (
          le-div 1 c.args.size base (omega (arith, c.base_of-base.ensures.more)) (omega (arith, c.base_of-base.ensures.most)),
          ap₂ K.times c.pow-next_root.ensures c.pow-next_inverse.ensures ∙ powers_inverse K N c.args.root c.args.inverse base c.requires.inverse,
        ),
      ),
    )

pub returns-clause-products : goal.returns-clause-products
returns-clause-products g t c = λ i l.
    let K = g.F.Field.field in
    let N = g.met.F.Field.field_laws in
    let base = c.base_of-base.result in
    let root = c.args.root in
    let x = of_list K c.args.items.now i in
    let z = of_list K c.take_places.new.items i in
    let ds = c.in_ok-digits.digits.items in
    let ps = c.in_ok-places.places.items in
    let new = c.put_digits.new.places in
    let less : i < length c.multiply_by_powers.new.items = omega (arith, l, c.multiply_by_powers.ensures.len) in
    let many : i < length c.as_mut_slice.result.now = omega (arith, less, c.in_ok-places.ensures.places, ap length c.as_mut_slice.ensures.value) in
    let back = written_back new _ _ (omega (arith, c.put_digits.ensures.len, c.as_mut_slice.ensures.len)) in
    let without =
    c.in_ok-multiply_by_powers.ensures.products i l
    ∙ ap (λ t. K.times x (power K c.args.inverse (get_or t i 0))) c.deref.ensures.value in
    let left =
    c.in_ok-places.ensures.products i less
    ∙ ap (λ r. K.times z (power K r (get_or ps i 0))) c.pow-next_root.ensures in
    let place =
    c.put_digits.ensures.places i many
    ∙ ap₂ (λ s t. get_or s i 0 + base * get_or t i 0) c.deref-2.ensures.value c.as_mut_slice.ensures.value in
    lowest_digit K N x (of_list K c.multiply_by_powers.new.items i) z root c.args.inverse (get_or ds i 0) base (get_or ps i 0) c.requires.inverse without left
    ∙ ap (λ p. K.times z (power K root p)) (sym (ap (λ t. get_or t i 0) back ∙ place))
