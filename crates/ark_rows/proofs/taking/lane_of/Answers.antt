use Rattle.std.proofs.Common.{arith}
use Rattle.std.proofs.lemmas.Grind.{common_steps}
use Rattle.ark_math.specs.Module.{itself}
use Rattle.ark_rows.proofs.Lanes.{lane_of_transform, lane_of_inverse}
use Rattle.ark_rows.proofs.taking.lane_of.Goals as goal

pub returns-clause-elements : goal.returns-clause-elements
returns-clause-elements g c = grind (arith, common_steps)

pub returns-clause-transform : goal.returns-clause-transform
returns-clause-transform g c = λ d rows e.
    let K = g.F.Field.field in
    lane_of_transform K (itself K) c.args.i d _ _ (returns-clause-elements g c) rows e

pub returns-clause-inverse : goal.returns-clause-inverse
returns-clause-inverse g c = λ d rows inverse.
    let K = g.F.Field.field in
    lane_of_inverse K (itself K) c.args.i d _ _ (returns-clause-elements g c) rows inverse
