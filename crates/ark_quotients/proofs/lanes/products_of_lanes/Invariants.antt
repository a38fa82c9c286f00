use Rattle.std.proofs.Common.{◌≡◌, take, map}
use Rattle.ark_quotients.proofs.lanes.products_of_lanes.Given as goal

abbrev pub invariant-loop-i : goal.invariant-loop-i
invariant-loop-i g l =
    let K = g.F.Field.field in
    l.products.items ≡ map (λ v. K.times v.first v.second) (take l.i l.lanes)
