use Rattle.std.proofs.Common.{◌≡◌, ◌<◌, ℕ, length}
use Rattle.ark_math.specs.Field.{power}
use Rattle.ark_math.specs.Univariate.{of_list}
use Rattle.ark_points.proofs.places.powers.Given as goal

abbrev pub invariant-loop : goal.invariant-loop
invariant-loop g l =
    let K = g.F.Field.field in
    record {
      len : length l.powers.items ≡ l.counter;
      done : (k : ℕ) → k < l.counter → of_list K l.powers.items k ≡ power K l.element k;
      next : l.next ≡ power K l.element l.counter;
    }
