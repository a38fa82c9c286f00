use Rattle.std.proofs.Common.{◌≡◌, ◌-◌, ◌/◌, ◌++◌, length, take, drop, sym, ap, subst, ◌∙◌, arith}
use Rattle.std.proofs.lemmas.List.{length-drop, take_all}
use Rattle.ark_math.specs.Univariate.{of_list}
use Rattle.ark_math_polynomials.specs.Nodes.{nodes}
use Rattle.ark_math_points.specs.AtPoints.{AreValuesAt}
use Rattle.ark_subproducts.specs.Tree.{IsTreeOver}
use Rattle.ark_subproducts.proofs.Remainders.{values_by_halves}
use Rattle.ark_subproducts.proofs.tree.SubproductTree+F.+values.Goals as goal

pub remainder-requires : goal.remainder-requires
remainder-requires g t c =
    let K = g.F.Field.field in
    let points = c.args.points.now in
    let front = take (length points / 2) points in
    let tree = rw c.in-Halves.is at c.requires.tree in
    record { monic = (length front, c.product.ensures.monic front (subst (IsTreeOver K front) (sym c.deref-in-Halves.ensures) tree.2)) }

pub remainder-requires-in-Halves : goal.remainder-requires-in-Halves
remainder-requires-in-Halves g t c =
    let K = g.F.Field.field in
    let points = c.args.points.now in
    let back = drop (length points / 2) points in
    let tree = rw c.in-Halves.is at c.requires.tree in
    record { monic = (length back, c.product-in-Halves.ensures.monic back (subst (IsTreeOver K back) (sym c.deref-in-Halves-2.ensures) tree.3)) }

pub returns-in_ok-extend_from_slice-in-Halves-clause-values : goal.returns-in_ok-extend_from_slice-in-Halves-clause-values
returns-in_ok-extend_from_slice-in-Halves-clause-values g t c =
    let K = g.F.Field.field in
    let N = g.met.F.Field.field_laws in
    let points = c.args.points.now in
    let half = length points / 2 in
    let front = take half points in
    let back = drop half points in
    let a = of_list K c.args.polynomial.now in
    let tree = rw c.in-Halves.is at c.requires.tree in
    let is_low : of_list K c.product.result.now ≡ nodes K front = c.product.ensures.product front (subst (IsTreeOver K front) (sym c.deref-in-Halves.ensures) tree.2) in
    let is_high : of_list K c.product-in-Halves.result.now ≡ nodes K back = c.product-in-Halves.ensures.product back (subst (IsTreeOver K back) (sym c.deref-in-Halves-2.ensures) tree.3) in
    let rest : take (length points - half) back ≡ back = take_all (length points - half) back (omega (arith, length-drop half points)) in
    let v = c.in_ok-values-in-Halves.values.items in
    let w = c.in_ok-others-in-Halves.others.items in
    let all = c.in_ok-extend_from_slice-in-Halves.ensures.items in
    subst (λ ys. AreValuesAt K points ys a) (sym (all ∙ ap (λ t. v ++ t) c.deref-in-Halves-5.ensures.value))
    (values_by_halves K N points tree.0 a (of_list K c.in_ok-for_low-in-Halves.for_low) (of_list K c.in_ok-for_high-in-Halves.for_high) (of_list K c.product.result.now) (of_list K c.product-in-Halves.result.now) (take (length points - half) back) v w rest is_low is_high
    c.in_ok-for_low-in-Halves.ensures.remainder c.in_ok-for_high-in-Halves.ensures.remainder c.in_ok-values-in-Halves.ensures.values c.in_ok-others-in-Halves.ensures.values)
