use Rattle.std.proofs.Common.{rules, ℕ, ◌≡◌, ◌/◌, ◌++◌, List, length, take, drop, sym, ap, ap₂, subst, subst₂, ◌∙◌, arith, IfOk, IfSome}
use Rattle.std.proofs.lemmas.List.{length-drop, length-take-le, take-append-drop}
use Rattle.std.proofs.lemmas.Result.{IfOk-weaker}
use Rattle.ark_bit_reversed.specs.Blocks.{AreFirstValues}
use Rattle.ark_math.specs.Univariate.{of_list}
use Rattle.ark_math_polynomials.specs.Nodes.{nodes}
use Rattle.ark_subproducts.specs.Tree.{AreFactors, weighed}
use Rattle.ark_subproducts.specs.declared.blocks.Factors.{Factors}
use Rattle.ark_subproducts.proofs.BlockWeighed.{AreWeighedParts, weighed_by_parts}
use Rattle.ark_subproducts.proofs.MiddleProducts.{from_half, halves-joined, tree_of_half}
use Rattle.ark_subproducts.proofs.blocks.BlockTree+F.+weighed.Goals as goal

pub weighed-requires : goal.weighed-requires
weighed-requires g t c κs within =
    let part = c.args.part.now in
    let points = part.points.now in
    let half = length points / 2 in
    let low = c.low-low_part in
    let tree = rw c.in-Halves.is at c.requires.tree in
    let front = ap length low.ensures.half.points ∙ length-take-le half points (omega arith) in (
      omega (arith, front, tree.1.many),
      (
        search rules,
        (
          low.ensures.part,
          (
            tree_of_half g.F.Field.field part low.result (take half points) c.in-Halves.low.value _ low.ensures.half c.deref.ensures tree.2,
            c.split_at.ensures.front_len ∙ sym front,
          ),
        ),
      ),
    )

pub weighed-requires-in-Halves : goal.weighed-requires-in-Halves
weighed-requires-in-Halves g t c κs within =
    let part = c.args.part.now in
    let points = part.points.now in
    let half = length points / 2 in
    let high = c.high-high_part in
    let tree = rw c.in-Halves.is at c.requires.tree in
    let back = ap length high.ensures.half.points ∙ length-drop half points in (
      omega (arith, back, tree.1.many),
      (
        search rules,
        (
          high.ensures.part,
          (
            tree_of_half g.F.Field.field part high.result (drop half points) c.in-Halves.high.value _ high.ensures.half c.deref-in-Halves-2.ensures tree.3,
            omega (arith, c.split_at.ensures.back_len, back, c.requires.weights),
          ),
        ),
      ),
    )

pub values_from_half-requires : goal.values_from_half-requires
values_from_half-requires g t c =
    let K = g.F.Field.field in
    let part = c.args.part.now in
    let half = c.low-low_part in
    let sum = c.in_ok-low_sum-in-Halves in
    let same = c.deref-in-Halves.ensures.value in
    let tree = rw c.in-Halves.is at c.requires.tree in
    record {
      part = c.requires.part;
      many = omega (arith, tree.1.many, c.requires.part.room);
      few = omega (arith, ap length same, sum.ensures.few, half.ensures.half.count);
      known = subst (λ s. IfSome sum.low_known (λ v. AreFirstValues K part.blocks.now (part.count / 2) (of_list K s) v.items)) (sym same)
          (from_half part half.result (take (length part.points.now / 2) part.points.now) half.ensures.half (λ r n zs. IfSome sum.low_known (λ v. AreFirstValues K r n (of_list K sum.low_sum.items) v.items)) sum.ensures.values);
    }

pub values_from_half-requires-in-Halves : goal.values_from_half-requires-in-Halves
values_from_half-requires-in-Halves g t c =
    let K = g.F.Field.field in
    let part = c.args.part.now in
    let half = c.high-high_part in
    let sum = c.in_ok-high_sum-in-Halves in
    let same = c.deref-in-Halves-3.ensures.value in
    let tree = rw c.in-Halves.is at c.requires.tree in
    record {
      part = c.requires.part;
      many = omega (arith, tree.1.many, c.requires.part.room);
      few = omega (arith, ap length same, sum.ensures.few, half.ensures.half.count);
      known = subst (λ s. IfSome sum.high_known (λ v. AreFirstValues K part.blocks.now (part.count / 2) (of_list K s) v.items)) (sym same)
          (from_half part half.result (drop (length part.points.now / 2) part.points.now) half.ensures.half (λ r n zs. IfSome sum.high_known (λ v. AreFirstValues K r n (of_list K sum.high_sum.items) v.items)) sum.ensures.values);
    }

pub returns-in_ok-second-in-Halves : goal.returns-in_ok-second-in-Halves
returns-in_ok-second-in-Halves g t c =
    let K = g.F.Field.field in
    let N = g.met.F.Field.field_laws in
    let part = c.args.part.now in
    let table = part.blocks.now in
    let points = part.points.now in
    let weights = c.args.weights.now in
    let half = length points / 2 in
    let low = c.low-low_part.result in
    let high = c.high-high_part.result in
    let first_half = c.low-low_part.ensures.half in
    let second_half = c.high-high_part.ensures.half in
    let cut = c.split_at in
    let us = cut.result.0.now in
    let vs = cut.result.1.now in
    let values = (rw c.in-Halves.is at c.requires.tree).1 in
    let first = c.in_ok-first-in-Halves in
    let second = c.in_ok-second-in-Halves in
    let n = length first.first.items in
    let len : n ≡ part.count = first.ensures.values.len in
    let left : Factors g.row.F.Denot = record { values = first.first; factor = c.deref-in-Halves-4.result } in
    let right : Factors g.row.F.Denot = record { values = second.second; factor = c.deref-in-Halves-5.result } in
    let parts : AreWeighedParts points weights low.points.now high.points.now us vs = record {
      joined = halves-joined part low high half first_half second_half;
      weighted = ap₂ (λ s t. s ++ t) cut.ensures.front cut.ensures.back ∙ take-append-drop half weights;
      len = cut.ensures.front_len ∙ sym (ap length first_half.points ∙ length-take-le half points (omega arith));
    } in
    let over : (m : ℕ) → m ≡ part.count → (a : ℕ → g.row.F.Denot) (v : List g.row.F.Denot) → AreFirstValues K table part.count a v → AreFirstValues K table m a v = λ m is a v h. subst (λ k. AreFirstValues K table k a v) (sym is) h in
    let L : AreFactors K table left (weighed K low.points.now (of_list K us)) (nodes K high.points.now) = record {
      own = over n len _ _ (subst (λ a. AreFirstValues K table part.count a first.first.items) (ap (of_list K) c.deref-in-Halves.ensures.value ∙ c.in_ok-low_sum-in-Halves.ensures.sum) first.ensures.values);
      factor = over n len _ _ (subst₂ (λ zs v. AreFirstValues K table part.count (nodes K zs) v) (sym second_half.points) (sym c.deref-in-Halves-4.ensures.value) values.high);
    } in
    let R : AreFactors K table right (weighed K high.points.now (of_list K vs)) (nodes K low.points.now) = record {
      own = over _ second.ensures.values.len _ _ (subst (λ a. AreFirstValues K table part.count a second.second.items) (ap (of_list K) c.deref-in-Halves-3.ensures.value ∙ c.in_ok-high_sum-in-Halves.ensures.sum) second.ensures.values);
      factor = over _ second.ensures.values.len _ _ (subst₂ (λ zs v. AreFirstValues K table part.count (nodes K zs) v) (sym first_half.points) (sym c.deref-in-Halves-5.ensures.value) values.low);
    } in
    let both : IfOk c.sum_of_products.result (λ p. (of_list K p.0.items ≡ weighed K points (of_list K weights)) × IfSome p.1 (λ v. AreFirstValues K table n (of_list K p.0.items) v.items)) =
    IfOk-weaker c.sum_of_products.result _ _
    (λ p h.
    weighed_by_parts K N table points weights low.points.now high.points.now us vs parts left right n (omega (arith, len, c.requires.part.room)) L R
    (λ a. (of_list K p.0.items ≡ a) × IfSome p.1 (λ v. AreFirstValues K table n (of_list K p.0.items) v.items)) h)
    c.sum_of_products.ensures.sum in
    record {
      sum = IfOk-weaker c.sum_of_products.result _ _ (λ p h. h.0) both;
      few = IfOk-weaker c.sum_of_products.result _ _ (λ p h. omega (arith, h, len)) c.sum_of_products.ensures.few;
      values = IfOk-weaker c.sum_of_products.result _ _ (λ p h. subst (λ m. IfSome p.1 (λ v. AreFirstValues K table m (of_list K p.0.items) v.items)) len h.1) both;
    }
