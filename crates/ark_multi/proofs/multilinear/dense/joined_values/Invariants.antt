use Rattle.std.proofs.Common.{◌≡◌, flat_map, take}
use Rattle.ark_multi.proofs.multilinear.dense.joined_values.Given as goal

abbrev pub invariant-loop-poly : goal.invariant-loop-poly
invariant-loop-poly g l = l.values.items ≡ flat_map (λ p. p.evaluations.items) (take l.poly-index l.polys)
