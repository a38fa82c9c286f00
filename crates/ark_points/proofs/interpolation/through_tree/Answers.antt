use Rattle.std.proofs.Common.{length, sym, subst}
use Rattle.ark_math.specs.Univariate.{of_list}
use Rattle.ark_math_points.specs.AtPoints.{HasValues}
use Rattle.ark_math_polynomials.specs.Nodes.{nodes}
use Rattle.ark_subproducts.specs.Tree.{derived}
use Rattle.ark_points.proofs.interpolation.through_tree.Goals as goal

pub returns-then-has_zero-clause-through : goal.returns-then-has_zero-clause-through
returns-then-has_zero-clause-through g c =
    let plain = c.in_ok-polynomial.ensures in
    record { below = plain.below; values = plain.values; only = plain.only; different = plain.different }

pub returns-clause-through : goal.returns-clause-through
returns-clause-through g c = c.in_ok-summed_up.ensures.through

pub summed_up-requires-clause-slopes : goal.summed_up-requires-clause-slopes
summed_up-requires-clause-slopes g c =
    let K = g.F.Field.field in
    let xs = c.args.xs.now in
    subst (λ v. HasValues K (length xs) (of_list K xs) (of_list K v) (derived K (nodes K xs))) (sym c.deref-2.ensures.value) c.in_ok-slopes.ensures.slopes
