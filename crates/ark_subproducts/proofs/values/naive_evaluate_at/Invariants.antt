use Rattle.std.proofs.Common.{◌≡◌, length}
use Rattle.ark_math.specs.Univariate.{of_list}
use Rattle.ark_math_points.specs.AtPoints.{HasValues}
use Rattle.ark_subproducts.proofs.values.naive_evaluate_at.Given as goal

abbrev pub invariant-loop-i : goal.invariant-loop-i
invariant-loop-i g l =
    let K = g.F.Field.field in
    record {
      len : length l.values.items ≡ l.i;
      done : HasValues K l.i (of_list K l.points) (of_list K l.values.items) (of_list K l.polynomial);
    }
