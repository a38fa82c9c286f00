use Rattle.std.proofs.Common.{◌≡◌, length, sym, ap, subst, subst₂, ◌∙◌, arith}
use Rattle.std.proofs.lemmas.List.{length-map}
use Rattle.ark_math.specs.Univariate.{IsBelow, of_list}
use Rattle.ark_math_points.specs.AtPoints.{AreDifferent, HasValues, x_of, y_of}
use Rattle.ark_subproducts.specs.Tree.{weighed}
use Rattle.ark_math_points.proofs.AtPoints.Newton.{only_interpolation}
use Rattle.ark_math_points.proofs.AtPoints.PairParts.{x_of_is}
use Rattle.ark_subproducts.proofs.Callers.Values.{slopes_differ, weighed_values}
use Rattle.ark_points.proofs.interpolation.summed_up.Goals as goal

pub returns-clause-through : goal.returns-clause-through
returns-clause-through g c =
    let K = g.F.Field.field in
    let N = g.met.F.Field.field_laws in
    let points = c.args.points.now in
    let zs = c.args.xs.now in
    let count : length zs ≡ length points = ap length c.requires.xs ∙ length-map points (λ p. p.0) in
    let xs : of_list K zs ≡ x_of K points = ap (of_list K) c.requires.xs ∙ x_of_is K points in
    let ss = of_list K c.args.slopes.now in
    let slopes = c.requires.slopes in
    let ws = of_list K c.in_ok-weights.weights.items in
    let is : of_list K c.in_ok-sum.sum ≡ weighed K zs ws =
    c.in_ok-sum.ensures.sum ∙ ap (λ u. weighed K zs (of_list K u)) c.deref.ensures.value in
    let below : IsBelow K (length points) (of_list K c.in_ok-sum.sum) = subst (λ n. IsBelow K n (of_list K c.in_ok-sum.sum)) count c.in_ok-sum.ensures.below in
    let values : HasValues K (length points) (x_of K points) (y_of K points) (of_list K c.in_ok-sum.sum) =
    subst (HasValues K (length points) (x_of K points) (y_of K points)) (sym is)
    (subst₂ (λ n x. HasValues K n x (y_of K points) (weighed K zs ws)) count xs
    (weighed_values K N zs ws ss (y_of K points) slopes (λ i l.
    c.in_ok-weights.ensures.weights i (omega (arith, l, count))))) in
    let different : AreDifferent (length points) (x_of K points) =
    subst₂ AreDifferent count xs (slopes_differ K N zs ss slopes (λ i l. c.requires.not_zero i (omega (arith, l, c.requires.len)))) in
    record {
      below = below;
      values = values;
      only = λ a short given. only_interpolation K N (x_of K points) (y_of K points) (length points) different a _ short below given values;
      different = different;
    }
