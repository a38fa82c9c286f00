use Rattle.std.proofs.Common.{◌≡◌, map, take}
use Rattle.ark_points.proofs.pairs.paired.Given as goal

abbrev pub invariant-loop-i : goal.invariant-loop-i
invariant-loop-i g l =
    record {
      first : map (λ p. p.0) l.pairs.items ≡ take l.i l.points;
      second : map (λ p. p.1) l.pairs.items ≡ take l.i l.values;
    }
