use Rattle.std.proofs.Common.{◌≡◌, ℕ, length}
use Rattle.ark_math_domains.specs.Points.{AreValues}
use Rattle.ark_math.specs.Univariate.{IsValue, of_list}
use Rattle.ark_math_points.specs.AtPoints.{HasValues}
use Rattle.ark_points.proofs.lookup.looked_up.Given as goal

abbrev pub invariant-loop-i : goal.invariant-loop-i
invariant-loop-i g l =
    let K = g.F.Field.field in
    record {
      len : length l.values.items ≡ l.i;
      done : (p : ℕ → g.row.F.Denot) → AreValues K (g.D.EvaluationDomain.domain l.known.all.domain) p l.known.all.evals → IsValue K p K.zero l.known.at_zero → HasValues K l.i (of_list K l.points) (of_list K l.values.items) p;
    }
