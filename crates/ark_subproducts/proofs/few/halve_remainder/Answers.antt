use Rattle.std.proofs.Common.{◌≡◌, ◌+◌, ◌-◌, ◌/◌, length, drop, take, ap, ap₂, ◌∙◌, arith}
use Rattle.std.proofs.lemmas.List.{get_or-append_right, get_or_append_left}
use Rattle.ark_math.specs.Univariate.{of_list, product}
use Rattle.ark_math_polynomials.specs.Nodes.{nodes}
use Rattle.ark_subproducts.proofs.few.halve_remainder.Goals as goal

pub returns-clause-low : goal.returns-clause-low
returns-clause-low g c j l =
    let K = g.F.Field.field in
    let low = c.write_part.new.items in
    let high = c.write_part-2.new.items in
    let n = length c.args.points.now in
    let half = n / 2 in
    let front : length low ≡ half = c.write_part.ensures.len ∙ c.split_at_mut-for_low.ensures.front_len in
    let back : length high ≡ n - half = omega (arith, c.write_part-2.ensures.len, c.split_at_mut-for_low.ensures.back_len, c.requires.len) in
    let own : of_list K c.deref.result.now ≡ nodes K (drop half c.args.points.now) = ap (of_list K) c.deref.ensures.value ∙ c.requires.products.high in
    ap (λ t. t j) c.scale_each.ensures
    ∙ g.met.F.Field.field_laws.times_comm _ _
    ∙ ap (λ t. K.times t c.args.given.now.scale)
    (get_or_append_left low high K.zero j (omega (arith, l, front))
    ∙ c.write_part.ensures.part j (omega (arith, l, front, c.write_part.ensures.len))
    ∙ ap₂ (λ a s. product K a (of_list K s) (n - half + j)) own c.deref-2.ensures.value)

pub returns-clause-high : goal.returns-clause-high
returns-clause-high g c j l =
    let K = g.F.Field.field in
    let low = c.write_part.new.items in
    let high = c.write_part-2.new.items in
    let n = length c.args.points.now in
    let half = n / 2 in
    let front : length low ≡ half = c.write_part.ensures.len ∙ c.split_at_mut-for_low.ensures.front_len in
    let back : length high ≡ n - half = omega (arith, c.write_part-2.ensures.len, c.split_at_mut-for_low.ensures.back_len, c.requires.len) in
    let own : of_list K c.deref-3.result.now ≡ nodes K (take half c.args.points.now) = ap (of_list K) c.deref-3.ensures.value ∙ c.requires.products.low in
    let place : half + j - half ≡ j = omega arith in
    ap (λ t. t (half + j)) c.scale_each.ensures
    ∙ g.met.F.Field.field_laws.times_comm _ _
    ∙ ap (λ t. K.times t c.args.given.now.scale)
    (get_or-append_right low high half (half + j) K.zero front (omega arith)
    ∙ ap (of_list K high) place
    ∙ c.write_part-2.ensures.part j (omega (arith, l, back, c.write_part-2.ensures.len))
    ∙ ap₂ (λ a s. product K a (of_list K s) (half + j)) own c.deref-4.ensures.value)
