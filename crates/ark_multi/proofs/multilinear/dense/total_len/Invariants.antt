use Rattle.std.proofs.Common.{◌≡◌, ◌-◌, ◌^◌, flat_map, length, min, take}
use Rattle.ark_multi.proofs.multilinear.dense.total_len.Given as goal

abbrev pub invariant-loop-poly : goal.invariant-loop-poly
invariant-loop-poly g l = l.total ≡ min (length (flat_map (λ p. p.evaluations.items) (take l.poly-index l.polys))) (2 ^ 64 - 1)
