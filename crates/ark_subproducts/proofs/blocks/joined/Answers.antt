use Rattle.std.proofs.Common.{◌≡◌, ◌/◌, length, take, drop, sym, ap, ap₂, subst, subst₂, ◌∙◌, arith, IfSome}
use Rattle.std.proofs.lemmas.List.{length-drop, length-take-le}
use Rattle.ark_bit_reversed.specs.Blocks.{AreFirstValues, IsPowerOfTwo}
use Rattle.ark_bit_reversed.proofs.Callers.PowersOfTwo.{two_halves}
use Rattle.ark_math.specs.Univariate.{of_list, product}
use Rattle.ark_math_polynomials.specs.Nodes.{nodes}
use Rattle.ark_subproducts.specs.Tree.{AreValuesOver, IsBlockTreeOver, IsProductOver, IsTreeOfPart}
use Rattle.ark_subproducts.proofs.Nodes.{nodes-halves}
use Rattle.ark_subproducts.proofs.TableQuotients.{values_of_whole}
use Rattle.ark_subproducts.proofs.blocks.joined.Goals as goal

pub values_from_half-requires-clause-few : goal.values_from_half-requires-clause-few
values_from_half-requires-clause-few g c =
    let K = g.F.Field.field in
    let part = c.args.part.now in
    let roots = part.blocks.now in
    let points = part.points.now in
    let half = length points / 2 in
    let count = part.count / 2 in
    let front = take half points in
    let left : IsProductOver K front c.coeffs-left.result.now = c.coeffs-left.ensures roots count front (subst (IsBlockTreeOver K roots count front) (sym c.deref.ensures) c.requires.low) in
    omega (arith, left.len, length-take-le half points (omega arith), c.requires.part.room)

pub values_from_half-requires-clause-known : goal.values_from_half-requires-clause-known
values_from_half-requires-clause-known g c =
    let K = g.F.Field.field in
    let part = c.args.part.now in
    let roots = part.blocks.now in
    let points = part.points.now in
    let half = length points / 2 in
    let count = part.count / 2 in
    let front = take half points in
    let left : IsProductOver K front c.coeffs-left.result.now = c.coeffs-left.ensures roots count front (subst (IsBlockTreeOver K roots count front) (sym c.deref.ensures) c.requires.low) in
    subst (λ a. IfSome c.args.low.1 (λ v. AreFirstValues K roots count a v.items)) (sym left.is) c.requires.low_values

pub values_from_half-requires-2-clause-few : goal.values_from_half-requires-2-clause-few
values_from_half-requires-2-clause-few g c =
    let K = g.F.Field.field in
    let part = c.args.part.now in
    let roots = part.blocks.now in
    let points = part.points.now in
    let half = length points / 2 in
    let count = part.count / 2 in
    let back = drop half points in
    let right : IsProductOver K back c.coeffs-right.result.now = c.coeffs-right.ensures roots count back (subst (IsBlockTreeOver K roots count back) (sym c.deref-2.ensures) c.requires.high) in
    omega (arith, right.len, length-drop half points, two_halves part.count (omega (arith, c.requires.many, c.requires.part.room)) c.requires.part.power, c.requires.part.room)

pub values_from_half-requires-2-clause-known : goal.values_from_half-requires-2-clause-known
values_from_half-requires-2-clause-known g c =
    let K = g.F.Field.field in
    let part = c.args.part.now in
    let roots = part.blocks.now in
    let points = part.points.now in
    let half = length points / 2 in
    let count = part.count / 2 in
    let back = drop half points in
    let right : IsProductOver K back c.coeffs-right.result.now = c.coeffs-right.ensures roots count back (subst (IsBlockTreeOver K roots count back) (sym c.deref-2.ensures) c.requires.high) in
    subst (λ a. IfSome c.args.high.1 (λ v. AreFirstValues K roots count a v.items)) (sym right.is) c.requires.high_values

pub coefficients-requires : goal.coefficients-requires
coefficients-requires g c =
    let K = g.F.Field.field in
    let part = c.args.part.now in
    let roots = part.blocks.now in
    let points = part.points.now in
    let half = length points / 2 in
    let count = part.count / 2 in
    let front = take half points in
    let left : IsProductOver K front c.coeffs-left.result.now = c.coeffs-left.ensures roots count front (subst (IsBlockTreeOver K roots count front) (sym c.deref.ensures) c.requires.low) in
    let back = drop half points in
    let right : IsProductOver K back c.coeffs-right.result.now = c.coeffs-right.ensures roots count back (subst (IsBlockTreeOver K roots count back) (sym c.deref-2.ensures) c.requires.high) in
    let values : length c.deref-5.result.now ≡ part.count = ap length c.deref-5.ensures.value ∙ c.in_ok-values.ensures.len ∙ ap length c.deref-3.ensures.value ∙ c.in_ok-low_values.ensures.values.len in
    record {
      power = subst IsPowerOfTwo (sym values) c.requires.part.power;
      within = omega (arith, values, c.requires.part.within);
      left = omega (arith, left.len);
      right = omega (arith, right.len);
      few = omega (arith, right.len, length-drop half points, values, c.requires.many, c.requires.part.room);
      room = omega (arith, left.len, right.len, length-take-le half points (omega arith), length-drop half points, values, c.requires.many, c.requires.part.room);
    }

pub returns : goal.returns
returns g c =
    let K = g.F.Field.field in
    let part = c.args.part.now in
    let roots = part.blocks.now in
    let points = part.points.now in
    let half = length points / 2 in
    let count = part.count / 2 in
    let front = take half points in
    let back = drop half points in
    let left : IsProductOver K front c.coeffs-left.result.now = c.coeffs-left.ensures roots count front (subst (IsBlockTreeOver K roots count front) (sym c.deref.ensures) c.requires.low) in
    let right : IsProductOver K back c.coeffs-right.result.now = c.coeffs-right.ensures roots count back (subst (IsBlockTreeOver K roots count back) (sym c.deref-2.ensures) c.requires.high) in
    let N = g.met.F.Field.field_laws in
    let low = c.in_ok-low_values.low_values.items in
    let high = c.in_ok-high_values.high_values.items in
    let all = c.in_ok-values.values.items in
    let V : AreValuesOver K part (nodes K front) low = subst (λ a. AreValuesOver K part a low) left.is c.in_ok-low_values.ensures.values in
    let W : AreValuesOver K part (nodes K back) high = subst (λ a. AreValuesOver K part a high) right.is c.in_ok-high_values.ensures.values in
    let first = c.deref-3.ensures.value in
    let second = c.deref-4.ensures.value in
    let whole : AreValuesOver K part (nodes K points) all =
    values_of_whole K N roots points part.count low high all V W (c.in_ok-values.ensures.len ∙ ap length first)
    (λ i l. c.in_ok-values.ensures.products i (omega (arith, l, ap length first)) ∙ ap₂ (λ s t. K.times (of_list K s i) (of_list K t i)) first second) in
    let given = c.deref-5.result.now in
    let same = c.deref-5.ensures.value in
    let factors : product K (of_list K c.coeffs-left.result.now) (of_list K c.coeffs-right.result.now) ≡ nodes K points = ap₂ (product K) left.is right.is ∙ nodes-halves K N points half in
    let own : AreFirstValues K roots (length given) (product K (of_list K c.coeffs-left.result.now) (of_list K c.coeffs-right.result.now)) given =
    subst₂ (λ p v. AreFirstValues K roots (length v) p v) (sym factors) (sym same) (subst (λ m. AreFirstValues K roots m (nodes K points) all) (sym whole.len) whole) in
    record {
      tree = subst (IsTreeOfPart K part) (sym c.in_ok-new.ensures.ok) (
        c.from_coefficients_vec-product.ensures.coefficients ∙ c.in_ok-coeffs.ensures.product own ∙ factors,
        record { many = c.requires.many; low = V; high = W },
        c.requires.low,
        c.requires.high,
      );
      values = whole;
    }
