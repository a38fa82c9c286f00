use Rattle.std.proofs.Common.{◌≡◌, take}
use Rattle.ark_math.specs.Univariate.{of_pairs, product}
use Rattle.ark_quotients.proofs.products.all_products.Given as goal

abbrev pub invariant-loop-i : goal.invariant-loop-i
invariant-loop-i g l =
    let K = g.F.Field.field in
    of_pairs K l.products.items ≡ product K (of_pairs K (take l.i l.left)) (of_pairs K l.right)
