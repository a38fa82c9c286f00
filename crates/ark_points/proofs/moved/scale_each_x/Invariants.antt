use Rattle.std.proofs.Common.{◌≡◌, ◌<◌, ◌≤◌, ℕ, length}
use Rattle.ark_math_points.specs.AtPoints.{x_of, y_of}
use Rattle.ark_points.proofs.moved.scale_each_x.Given as goal

abbrev pub invariant-loop-i : goal.invariant-loop-i
invariant-loop-i g l =
    let K = g.F.Field.field in
    record {
      len : length l.pairs ≡ length l.initial.pairs;
      done : (k : ℕ) → k < l.i → x_of K l.pairs k ≡ K.times (x_of K l.initial.pairs k) l.factor;
      rest : (k : ℕ) → l.i ≤ k → x_of K l.pairs k ≡ x_of K l.initial.pairs k;
      same : (k : ℕ) → y_of K l.pairs k ≡ y_of K l.initial.pairs k;
    }
