use Rattle.std.proofs.Common.{◌≡◌, ◌≢◌, IfSome, [], ◌∷◌, length, get_or, ap, subst, ◌∙◌, arith}
use Rattle.std.proofs.lemmas.Bool.{true_from_ne_false}
use Rattle.std.proofs.lemmas.List.{get_or_read}
use Rattle.ark_math.specs.Field.{minus}
use Rattle.ark_math.specs.Univariate.{of_list, product, IsValue}
use Rattle.ark_math_points.specs.AtPoints.{x_of, y_of}
use Rattle.ark_math_points.proofs.AtPoints.Newton.{reached-zero, reached-some, reached-suc}
use Rattle.ark_points.proofs.interpolation.through_different.Goals as goal

pub loop-i-init : goal.loop-i-init
loop-i-init g c =
    let K = g.F.Field.field in
    let points = c.args.points.now in
    reached-zero K g.met.F.Field.field_laws (x_of K points) (y_of K points) (of_list K c.in_ok-polynomial.polynomial) (of_list K c.in_ok-nodes.nodes) c.in_ok-polynomial.ensures.zero
    (c.in_ok-nodes.ensures.constant ∙ ap (λ t. of_list K (t ∷ [])) (c.one.ensures ∙ g.met.F.Field.one_law))

pub unwrap-inverse-requires : goal.unwrap-inverse-requires
unwrap-inverse-requires g c =
    let K = g.F.Field.field in
    let points = c.args.points.now in
    let i = c.loop-i.i in
    let read : c.index-points-i.result ≡ get_or points i (K.zero, K.zero) = get_or_read points i c.index-points-i.result c.loop-i-test.true c.index-points-i.is (K.zero, K.zero) in
    let node : IsValue K (of_list K c.loop-i.nodes) (x_of K points i) c.in_ok-node.node = subst (λ t. IsValue K (of_list K c.loop-i.nodes) t c.in_ok-node.node) (ap (λ p. p.0) read) c.in_ok-node.ensures.value in
    let some : c.in_ok-node.node ≢ K.zero =
    reached-some K g.met.F.Field.field_laws (x_of K points) (y_of K points) i (length points) (of_list K c.loop-i.polynomial) (of_list K c.loop-i.nodes) c.in_ok-node.node c.requires c.loop-i-test.true c.loop-i.invariant node in
    true_from_ne_false _ (λ none. some (c.inverse.ensures.none.0 none))

pub loop-i-preserved : goal.loop-i-preserved
loop-i-preserved g c =
    let K = g.F.Field.field in
    let L = g.met.F.Field in
    let i = c.loop-i.i in
    let points = c.args.points.now in
    let read : c.index-points-i.result ≡ get_or points i (K.zero, K.zero) = get_or_read points i c.index-points-i.result c.loop-i-test.true c.index-points-i.is (K.zero, K.zero) in
    let here : c.index-points-i.result.0 ≡ x_of K points i = ap (λ p. p.0) read in
    let there : c.index-points-i.result.1 ≡ y_of K points i = ap (λ p. p.1) read in
    let one : K.times c.in_ok-node.node c.unwrap-inverse.result ≡ K.one = subst (λ r. IfSome r (λ y. K.times c.in_ok-node.node y ≡ K.one)) c.unwrap-inverse.ensures c.inverse.ensures.some in
    let step : c.mul-step.result ≡ K.times (minus K (y_of K points i) c.in_ok-known.known) c.unwrap-inverse.result =
    L.mul_law _ _ _ c.mul-step.ensures ∙ ap (λ t. K.times t c.unwrap-inverse.result) (L.sub_law _ _ _ c.sub.ensures ∙ ap (λ t. minus K t c.in_ok-known.known) there) in
    reached-suc K L.field_laws (x_of K points) (y_of K points) i (of_list K c.loop-i.polynomial) (of_list K c.loop-i.nodes) c.in_ok-known.known c.in_ok-node.node c.unwrap-inverse.result c.mul-step.result _ _ c.loop-i.invariant
    (subst (λ t. IsValue K (of_list K c.loop-i.polynomial) t c.in_ok-known.known) here c.in_ok-known.ensures.value)
    (subst (λ t. IsValue K (of_list K c.loop-i.nodes) t c.in_ok-node.node) here c.in_ok-node.ensures.value)
    one step c.in_ok-add_assign_scaled.ensures.sum
    (c.in_ok-nodes-2.ensures.product ∙ ap (product K (of_list K c.loop-i.nodes)) (c.in_ok-factor.ensures ∙ ap (λ t. of_list K (K.negated t ∷ K.one ∷ [])) here))

pub returns-clause-below : goal.returns-clause-below
returns-clause-below g c = λ k l. c.loop-i.invariant.below k (omega (arith, l, c.loop-i-test.false))

pub returns-clause-values : goal.returns-clause-values
returns-clause-values g c = λ k l. c.loop-i.invariant.known k (omega (arith, l, c.loop-i-test.false))
