use Rattle.std.proofs.Common.{◌≡◌, take}
use Rattle.ark_math_variables.specs.Multilinear.{fixed}
use Rattle.ark_math.specs.Univariate.{of_pairs, added, monomial}
use Rattle.ark_tables.specs.Held.{held}
use Rattle.ark_tables.proofs.windows.bind_window.Given as goal

abbrev pub invariant-loop-i : goal.invariant-loop-i
invariant-loop-i g l =
    let K = g.F.Field.field in
    added K (held K l.table) (monomial K l.index l.sum) ≡ fixed K (of_pairs K (take l.i l.entries)) l.point
