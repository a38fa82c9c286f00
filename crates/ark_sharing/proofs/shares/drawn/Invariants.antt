use Rattle.std.proofs.Common.{◌≡◌, length}
use Rattle.ark_math.specs.Draws.{AreDrawn}
use Rattle.ark_sharing.proofs.shares.drawn.Given as goal

abbrev pub invariant-loop : goal.invariant-loop
invariant-loop g l =
    record {
      count : length l.coeffs.items ≡ l.counter;
      drawn : AreDrawn g.F.Field.draws (g.R.Rng.stream l.fn.rng) l.coeffs.items (g.R.Rng.stream l.rng);
    }
