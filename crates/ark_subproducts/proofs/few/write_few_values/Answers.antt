use Rattle.std.proofs.Common.{◌≡◌, ◌+◌, ◌-◌, ◌/◌, ◌++◌, ℕ, length, take, drop, sym, ap, subst, ◌∙◌, arith}
use Rattle.std.proofs.lemmas.List.{get_or-drop, get_or-take, length-drop, length-replicate, length-take-le, take-append-drop, take_all}
use Rattle.ark_math.specs.Univariate.{of_list, product, scaled}
use Rattle.ark_math_polynomials.proofs.Polynomials.UnivariateLoops.{cut, cut-inside}
use Rattle.ark_math_polynomials.specs.Nodes.{nodes}
use Rattle.ark_math_points.specs.AtPoints.{HasValues}
use Rattle.ark_subproducts.specs.Tree.{IsScaledRemainder}
use Rattle.ark_subproducts.proofs.PointParts.{high_part, low_part, remainder_of_part, values-joined}
use Rattle.ark_subproducts.proofs.Multiples.{of_list-multiples}
use Rattle.ark_subproducts.proofs.few.write_few_values.Goals as goal

pub returns-clause-values : goal.returns-clause-values
returns-clause-values g c p stands =
    let K = g.F.Field.field in
    let N = g.met.F.Field.field_laws in
    let points = c.args.points.now in
    let n = length points in
    let half = n / 2 in
    let scale = c.args.given.now.scale in
    let s = of_list K c.args.given.now.items.items in
    let remainders = c.halve_remainder.new.items in
    let parts = c.split_at_mut-for_low in
    let low = take half points in
    let high = drop half points in
    let joined : low ++ high ≡ points = take-append-drop half points in
    let for_low : ℕ → g.row.F.Denot = λ j. product K (nodes K high) s (n - length low + j) in
    let for_high : ℕ → g.row.F.Denot = λ j. product K (nodes K low) s (n - length high + j) in
    let front : length low ≡ half = length-take-le half points (omega arith) in
    let back : length high ≡ n - half = length-drop half points in
    let upper : take (n - half) high ≡ high = take_all (n - half) high (omega (arith, back)) in
    let count : length remainders ≡ n = c.halve_remainder.ensures.len ∙ ap length (c.as_mut_slice-remainders.ensures.value ∙ c.in_ok-room.ensures) ∙ length-replicate n K.zero in
    let low_is : of_list K parts.result.0.now ≡ scaled K scale (cut K (length low) for_low) =
    of_list-multiples K N parts.result.0.now (length low) scale for_low (parts.ensures.front_len ∙ sym front)
    (λ j b.
    let place : n - half + j ≡ n - length low + j = omega (arith, front) in
    ap (λ t. of_list K t j) parts.ensures.front ∙ get_or-take half remainders j K.zero (omega (arith, b, front))
    ∙ c.halve_remainder.ensures.low j (omega (arith, b, front)) ∙ ap (λ m. K.times (product K (nodes K high) s m) scale) place) in
    let high_is : of_list K parts.result.1.now ≡ scaled K scale (cut K (length high) for_high) =
    of_list-multiples K N parts.result.1.now (length high) scale for_high (omega (arith, parts.ensures.back_len, count, back))
    (λ j b.
    let place : half + j ≡ n - length high + j = omega (arith, back) in
    ap (λ t. of_list K t j) parts.ensures.back ∙ get_or-drop half remainders j K.zero
    ∙ c.halve_remainder.ensures.high j (omega (arith, b, back)) ∙ ap (λ m. K.times (product K (nodes K low) s m) scale) place) in
    values-joined K N points low high joined c.write_values_of_remainder.new.values c.write_values_of_remainder-2.new.values p
    (omega (arith, c.write_values_of_remainder.ensures.len, c.split_at_mut-to_low.ensures.front_len, front))
    (λ i b.
    c.write_values_of_remainder.ensures.values p
    (subst (IsScaledRemainder K (length low) (nodes K low) p) (sym low_is)
    (remainder_of_part K N points low high (low_part K N points low high joined) (omega (arith, b)) n (omega (arith, front)) scale p s (cut K (length low) for_low) (cut-inside K (length low) for_low) stands))
    i b)
    (λ i b.
    subst (λ xs. IsScaledRemainder K (length xs) (nodes K xs) p (of_list K parts.result.1.now) → HasValues K (length xs) (of_list K xs) (of_list K c.write_values_of_remainder-2.new.values) p) upper
    (c.write_values_of_remainder-2.ensures.values p)
    (subst (IsScaledRemainder K (length high) (nodes K high) p) (sym high_is)
    (remainder_of_part K N points high low (high_part K N points low high joined) (omega (arith, b)) n (omega (arith, back)) scale p s (cut K (length high) for_high) (cut-inside K (length high) for_high) stands))
    i b)
