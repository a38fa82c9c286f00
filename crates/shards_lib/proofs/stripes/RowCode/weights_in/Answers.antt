use Rattle.std.proofs.Common.{◌≡◌, length, sym, ◌∙◌, ap, subst, refl}
use Rattle.ark_math_points.specs.AtPoints.{AreWeightsAt}
use Rattle.ark_math.specs.Univariate.{of_list}
use Rattle.shards_lib.proofs.PointsMemory.{points_memory}
use Rattle.shards_lib.proofs.stripes.RowCode.weights_in.Goals as goal

pub never_repeated-requires : goal.never_repeated-requires
never_repeated-requires g c =
    points_memory c.in-Err.error
    (λ e. let h = c.weights_at.ensures.repeated (c.in-Err.is ∙ e) in c.requires.different h.0 h.1 h.2 h.3 h.4)

pub returns-in-Ok : goal.returns-in-Ok
returns-in-Ok g c =
    let K = g.F.Field.field in
    let points = c.args.points.now in
    subst (λ t. AreWeightsAt K (length points) (of_list K points) t c.in-Ok.weights.items) c.element_at.ensures c.in-Ok.ensures.weights
