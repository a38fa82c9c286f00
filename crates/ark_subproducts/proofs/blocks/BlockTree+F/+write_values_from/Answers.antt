use Rattle.std.proofs.Common.{rules, ◌≡◌, ◌-◌, ◌/◌, ◌<◌, ◌++◌, length, take, drop, sym, ap, subst, subst₂, ◌∙◌, arith}
use Rattle.std.proofs.lemmas.List.{length-drop, length-take-le}
use Rattle.std.proofs.lemmas.Result.{on_ok_weaker}
use Rattle.ark_math.specs.Univariate.{scaled}
use Rattle.ark_math_polynomials.specs.Nodes.{nodes}
use Rattle.ark_subproducts.specs.Tree.{AreValuesOver, IsGivenTo, IsScaledRemainderBefore, IsScaledRemainder, Represents, RepresentsMultiple}
use Rattle.ark_subproducts.proofs.PointParts.{high_part, low_part, values-joined}
use Rattle.ark_subproducts.proofs.MiddleProducts.{half-count, half-middle, halves-joined, tree_of_half, values_of_half, values_over_half}
use Rattle.ark_subproducts.proofs.blocks.BlockTree+F.+write_values_from.Goals as goal

pub middle_product-requires-clause-middle : goal.middle_product-requires-clause-middle
middle_product-requires-clause-middle g t c =
    let part = c.args.part.now in
    let points = part.points.now in
    let front = take (length points / 2) points in
    let tree = rw c.in-Halves.is at c.requires.tree in
    let given = rw c.in-Halves.is at c.requires.given in
    half-middle part c.low-low_part.result front c.deref-in-Halves.result.now c.args.given.now c.requires.part (omega (arith, tree.1.many, c.requires.part.room)) c.low-low_part.ensures.half
    (ap length c.deref-in-Halves.ensures.value ∙ tree.1.high.len) given.room
    (omega (arith, given.end.0, length-take-le (length points / 2) points (omega arith))) given.end.1

pub write_values_from-requires : goal.write_values_from-requires
write_values_from-requires g t c κs within =
    let part = c.args.part.now in
    let points = part.points.now in
    let half = c.low-low_part.result in
    let is = c.low-low_part.ensures.half in
    let tree = rw c.in-Halves.is at c.requires.tree in
    let some : 0 < length half.points.now = omega (arith, ap length is.points, length-take-le (length points / 2) points (omega arith), tree.1.many) in
    let fewer : length half.points.now < length points = omega (arith, ap length is.points, length-take-le (length points / 2) points (omega arith), tree.1.many) in (
      omega (arith, fewer),
      (
        search rules,
        (
          c.low-low_part.ensures.part,
          (
            some,
            (
              tree_of_half g.F.Field.field part half (take (length points / 2) points) c.in-Halves.low.value _ is c.deref-in-Halves-2.ensures tree.2,
              (
                subst (λ x. IsGivenTo half x c.in_ok-for_low-in-Halves.for_low) (c.deref.ensures ∙ sym c.deref-in-Halves-2.ensures) c.in_ok-for_low-in-Halves.ensures.given,
                c.split_at_mut-to_low.ensures.front_len ∙ sym (ap length is.points ∙ length-take-le (length points / 2) points (omega arith)),
              ),
            ),
          ),
        ),
      ),
    )

pub middle_product-requires-in-Halves-clause-middle : goal.middle_product-requires-in-Halves-clause-middle
middle_product-requires-in-Halves-clause-middle g t c =
    let part = c.args.part.now in
    let points = part.points.now in
    let back = drop (length points / 2) points in
    let tree = rw c.in-Halves.is at c.requires.tree in
    let given = rw c.in-Halves.is at c.requires.given in
    half-middle part c.high-high_part.result back c.deref-in-Halves-4.result.now c.args.given.now c.requires.part (omega (arith, tree.1.many, c.requires.part.room)) c.high-high_part.ensures.half
    (ap length c.deref-in-Halves-4.ensures.value ∙ tree.1.low.len) given.room
    (omega (arith, given.end.0, length-drop (length points / 2) points)) given.end.1

pub write_values_from-requires-in-Halves : goal.write_values_from-requires-in-Halves
write_values_from-requires-in-Halves g t c κs within =
    let part = c.args.part.now in
    let points = part.points.now in
    let half = c.high-high_part.result in
    let is = c.high-high_part.ensures.half in
    let tree = rw c.in-Halves.is at c.requires.tree in
    let some : 0 < length half.points.now = omega (arith, ap length is.points, length-drop (length points / 2) points, tree.1.many) in
    let fewer : length half.points.now < length points = omega (arith, ap length is.points, length-drop (length points / 2) points, tree.1.many) in (
      omega (arith, fewer),
      (
        search rules,
        (
          c.high-high_part.ensures.part,
          (
            some,
            (
              tree_of_half g.F.Field.field part half (drop (length points / 2) points) c.in-Halves.high.value _ is c.deref-in-Halves-5.ensures tree.3,
              (
                subst (λ x. IsGivenTo half x c.in_ok-for_high-in-Halves.for_high) (c.deref-in-Halves-3.ensures ∙ sym c.deref-in-Halves-5.ensures) c.in_ok-for_high-in-Halves.ensures.given,
                omega (arith, c.split_at_mut-to_low.ensures.back_len, c.requires.len, ap length is.points, length-drop (length points / 2) points),
              ),
            ),
          ),
        ),
      ),
    )

pub returns-in-Few-clause-values : goal.returns-in-Few-clause-values
returns-in-Few-clause-values g t c =
    let K = g.F.Field.field in
    let part = c.args.part.now in
    let points = part.points.now in
    let given = c.args.given.now in
    let last = (rw c.in-Few.is at c.requires.given).end in
    on_ok_weaker c.write_few_values.result
    (λ h p s made stands.
    let is = subst (λ x. Represents K part.blocks.now x part.count made.own given.items.items) c.in-Few.is made.represents in
    h p
    (subst (IsScaledRemainder K (length points) (nodes K points) p) (sym (ap (scaled K given.scale) is ∙ made.multiple))
    (subst (λ m. IsScaledRemainderBefore K m (length points) (nodes K points) p s) last stands)))
    c.write_few_values.ensures.values

pub returns-in_ok-for_high-in-Halves-clause-values : goal.returns-in_ok-for_high-in-Halves-clause-values
returns-in_ok-for_high-in-Halves-clause-values g t c =
    let K = g.F.Field.field in
    let N = g.met.F.Field.field_laws in
    let part = c.args.part.now in
    let points = part.points.now in
    let n = length points in
    let given = c.args.given.now in
    let tree = rw c.in-Halves.is at c.requires.tree in
    let ends = rw c.in-Halves.is at c.requires.given in
    let many = tree.1.many in
    let above : 1 < part.count = omega (arith, many, c.requires.part.room) in
    let low = c.low-low_part.result in
    let high = c.high-high_part.result in
    let first = c.low-low_part.ensures.half in
    let second = c.high-high_part.ensures.half in
    let joined : low.points.now ++ high.points.now ≡ points = halves-joined part low high (n / 2) first second in
    let front : length low.points.now ≡ n / 2 = ap length first.points ∙ length-take-le (n / 2) points (omega arith) in
    let back : length high.points.now ≡ n - n / 2 = ap length second.points ∙ length-drop (n / 2) points in
    let new_low = c.write_values_from.new.values in
    let new_high = c.write_values_from-in-Halves.new.values in
    let for_low = c.in_ok-for_low-in-Halves.for_low in
    let for_high = c.in_ok-for_high-in-Halves.for_high in
    on_ok_weaker c.write_values_from-in-Halves.result
    (λ h p a made stands.
    let S : AreValuesOver K part made.own given.items.items = subst (λ x. Represents K part.blocks.now x part.count made.own given.items.items) c.in-Halves.is made.represents in
    let own_stands = subst (IsScaledRemainderBefore K given.end n (nodes K points) p) (sym made.multiple) stands in
    values-joined K N points low.points.now high.points.now joined new_low new_high p
    (omega (arith, c.in_ok-write_values_from-in-Halves.ensures.len, c.split_at_mut-to_low.ensures.front_len, front))
    (values_of_half K N points high.points.now low (low_part K N points low.points.now high.points.now joined) c.deref.result.now c.deref-in-Halves.result.now given for_low new_low
    (record {
      end = c.in_ok-for_low-in-Halves.ensures.end;
      middle = c.in_ok-for_low-in-Halves.ensures.middle;
      reached = λ q s r. c.in_ok-write_values_from-in-Halves.ensures.values q s (subst (λ x. RepresentsMultiple K low x for_low s) (c.deref.ensures ∙ sym c.deref-in-Halves-2.ensures) r);
    })
    (record { some = omega (arith, front, many); room = omega (arith, half-count part low (take (n / 2) points) c.requires.part above first, c.requires.part.room); inside = omega (arith, front, ends.end.0) })
    made.own p made.below
    (values_over_half K part low (take (n / 2) points) (nodes K high.points.now) c.deref-in-Halves.result.now c.requires.part above first
    (subst₂ (λ zs v. AreValuesOver K part (nodes K zs) v) (sym second.points) (sym c.deref-in-Halves.ensures.value) tree.1.high))
    (values_over_half K part low (take (n / 2) points) made.own given.items.items c.requires.part above first S)
    own_stands)
    (values_of_half K N points low.points.now high (high_part K N points low.points.now high.points.now joined) c.deref-in-Halves-3.result.now c.deref-in-Halves-4.result.now given for_high new_high
    (record {
      end = c.in_ok-for_high-in-Halves.ensures.end;
      middle = c.in_ok-for_high-in-Halves.ensures.middle;
      reached = λ q s r. h q s (subst (λ x. RepresentsMultiple K high x for_high s) (c.deref-in-Halves-3.ensures ∙ sym c.deref-in-Halves-5.ensures) r);
    })
    (record { some = omega (arith, back, many); room = omega (arith, half-count part high (drop (n / 2) points) c.requires.part above second, c.requires.part.room); inside = omega (arith, back, ends.end.0) })
    made.own p made.below
    (values_over_half K part high (drop (n / 2) points) (nodes K low.points.now) c.deref-in-Halves-4.result.now c.requires.part above second
    (subst₂ (λ zs v. AreValuesOver K part (nodes K zs) v) (sym first.points) (sym c.deref-in-Halves-4.ensures.value) tree.1.low))
    (values_over_half K part high (drop (n / 2) points) made.own given.items.items c.requires.part above second S)
    own_stands))
    c.write_values_from-in-Halves.ensures.values
