use Rattle.std.proofs.Common.{◌≡◌, ℕ, ◌<◌, ◌⊎◌}
use Rattle.ark_math.specs.Univariate.{of_list}
use Rattle.ark_points.proofs.lookup.are_found.Given as goal

abbrev pub invariant-loop-i : goal.invariant-loop-i
invariant-loop-i g l =
    let K = g.F.Field.field in
    (k : ℕ) → k < l.i → (of_list K l.rests k ≡ K.one) ⊎ (of_list K l.points k ≡ K.zero)
