use Rattle.std.proofs.Common.{◌≡◌, ◌<◌, ◌≤◌, ℕ, length}
use Rattle.ark_math.specs.Univariate.{of_list}
use Rattle.ark_subproducts.specs.Steps.{IsOffRoot}
use Rattle.ark_subproducts.proofs.roots.take_out_roots.Given as goal

abbrev pub invariant-loop-i : goal.invariant-loop-i
invariant-loop-i g l =
    let K = g.F.Field.field in
    record {
      len : length l.points ≡ length l.initial.points;
      same : length l.powers ≡ length l.initial.points;
      done : (k : ℕ) → k < l.i → IsOffRoot K (of_list K l.initial.points k) (of_list K l.initial.powers k) (of_list K l.points k) (of_list K l.powers k);
      rest : (k : ℕ) → l.i ≤ k → of_list K l.points k ≡ of_list K l.initial.points k;
      rest_powers : (k : ℕ) → l.i ≤ k → of_list K l.powers k ≡ of_list K l.initial.powers k;
    }
