use Rattle.std.proofs.Common.{◌≡◌, ◌-◌, ◌/◌, length, take, drop, sym, subst, ap₂, ◌∙◌, arith}
use Rattle.std.proofs.lemmas.List.{length-drop, take_all}
use Rattle.ark_math.specs.Univariate.{IsBelow, added, of_list, product}
use Rattle.ark_math_polynomials.specs.Nodes.{nodes}
use Rattle.ark_subproducts.specs.Tree.{IsTreeOver, weighed}
use Rattle.ark_subproducts.proofs.Weighed.{weighed-below, weighed-halves}
use Rattle.ark_subproducts.proofs.tree.SubproductTree+F.+weighed.Goals as goal

pub returns-in_ok-add-in-Halves-clause-sum : goal.returns-in_ok-add-in-Halves-clause-sum
returns-in_ok-add-in-Halves-clause-sum g t c =
    let K = g.F.Field.field in
    let N = g.met.F.Field.field_laws in
    let points = c.args.points.now in
    let weights = c.args.weights.now in
    let half = length points / 2 in
    let front = take half points in
    let back = drop half points in
    let tree = rw c.in-Halves.is at c.requires.tree in
    let high : of_list K c.product.result.now ≡ nodes K back = c.product.ensures.product back (subst (IsTreeOver K back) (sym c.deref-in-Halves-3.ensures) tree.3) in
    let low : of_list K c.product-in-Halves.result.now ≡ nodes K front = c.product-in-Halves.ensures.product front (subst (IsTreeOver K front) (sym c.deref-in-Halves-4.ensures) tree.2) in
    let upper : take (length points - half) back ≡ back = take_all (length points - half) back (omega (arith, length-drop half points)) in
    let more : take (length weights - half) (drop half weights) ≡ drop half weights = take_all (length weights - half) (drop half weights) (omega (arith, length-drop half weights)) in
    let left : of_list K c.in_ok-first-in-Halves.first ≡ product K (weighed K front (of_list K (take half weights))) (nodes K back) =
    c.in_ok-first-in-Halves.ensures.product ∙ ap₂ (product K) c.in_ok-of_low-in-Halves.ensures.sum high in
    let right : of_list K c.in_ok-second-in-Halves.second ≡ product K (weighed K back (of_list K (drop half weights))) (nodes K front) =
    c.in_ok-second-in-Halves.ensures.product ∙ ap₂ (product K) (c.in_ok-of_high-in-Halves.ensures.sum ∙ ap₂ (λ t u. weighed K t (of_list K u)) upper more) low in
    c.in_ok-add-in-Halves.ensures.sum ∙ ap₂ (added K) left right ∙ weighed-halves K N points weights half (omega arith) c.requires.len

pub returns-in_ok-coeffs-in-Few-Plain-clause-below : goal.returns-in_ok-coeffs-in-Few-Plain-clause-below
returns-in_ok-coeffs-in-Few-Plain-clause-below g t c =
    subst (IsBelow g.F.Field.field (length c.args.points.now)) (sym (c.from_coefficients_vec.ensures.coefficients ∙ c.in_ok-coeffs-in-Few-Plain.ensures.sum))
    (weighed-below g.F.Field.field g.met.F.Field.field_laws c.args.points.now (of_list g.F.Field.field c.args.weights.now))

pub returns-in_ok-coeffs-in-Few-Blocks-clause-below : goal.returns-in_ok-coeffs-in-Few-Blocks-clause-below
returns-in_ok-coeffs-in-Few-Blocks-clause-below g t c =
    subst (IsBelow g.F.Field.field (length c.args.points.now)) (sym (c.from_coefficients_vec-in-Few-Blocks.ensures.coefficients ∙ c.in_ok-coeffs-in-Few-Blocks.ensures.sum))
    (weighed-below g.F.Field.field g.met.F.Field.field_laws c.args.points.now (of_list g.F.Field.field c.args.weights.now))

pub returns-in_ok-add-in-Halves-clause-below : goal.returns-in_ok-add-in-Halves-clause-below
returns-in_ok-add-in-Halves-clause-below g t c =
    subst (IsBelow g.F.Field.field (length c.args.points.now)) (sym (returns-in_ok-add-in-Halves-clause-sum g t c))
    (weighed-below g.F.Field.field g.met.F.Field.field_laws c.args.points.now (of_list g.F.Field.field c.args.weights.now))
