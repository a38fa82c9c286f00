use Rattle.std.proofs.Common.{◌≡◌, sym, subst, ap, ◌∙◌}
use Rattle.examples.proofs.combination.combination.Goals as goal

-- zero plus the first multiple is this multiple, and the second one can be added to it
pub returns-clause-value : goal.returns-clause-value
returns-clause-value g c x y z at_left at_right =
    let K = g.F.Field.field in
    let P = g.P.Polynomial in
    let V = P.operations in
    let L = g.met.P.Polynomial.polynomial_laws in
    let p = P.meaning c.args.left.now in
    let q = P.meaning c.args.right.now in
    let first = V.scale c.args.a p in
    let second = V.scale c.args.b q in
    let alone : P.meaning c.add_assign_scaled.new.self ≡ first =
    c.in_ok-add_assign_scaled.ensures.sum ∙ ap (λ t. V.plus t first) c.in_ok-sum.ensures.zero
    ∙ L.plus_comm V.zero first (L.addable_comm first V.zero (L.addable_zero first)) ∙ L.plus_zero first in
    let both = c.in_ok-add_assign_scaled-2.ensures.sum ∙ ap (λ t. V.plus t second) alone in
    let fit = L.addable_scale c.args.b first q (L.addable_comm q first (L.addable_scale c.args.a q p (L.addable_comm p q c.requires))) in
    subst (λ t. P.has_value t x (K.plus (K.times c.args.a y) (K.times c.args.b z))) (sym both)
    (L.value_plus first second x _ _ fit (L.value_scale c.args.a p x y at_left) (L.value_scale c.args.b q x z at_right))
