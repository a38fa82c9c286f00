use Rattle.std.proofs.Common.{◌+◌, ◌-◌, ◌≤◌, arith, ◌∙◌}
use Rattle.shards_format.proofs.PlaceLists.{range_length, range_below, range_apart}
use Rattle.shards_format.proofs.extenders.parity_extender.Goals as goal

pub placed_extender-requires-clause-given : goal.placed_extender-requires-clause-given
placed_extender-requires-clause-given g c = range_length 0 c.k-k.result _ c.in_ok-given.ensures ∙ c.k-k.ensures.k

pub placed_extender-requires-clause-given_below : goal.placed_extender-requires-clause-given_below
placed_extender-requires-clause-given_below g c =
    let n = g.C.StripeCode.n_of c.args.code.now in
    let room : 0 + c.k-k.result ≤ n = omega (arith, c.k-k.ensures.fits) in
    range_below 0 c.k-k.result _ c.in_ok-given.ensures n room

pub placed_extender-requires-clause-apart : goal.placed_extender-requires-clause-apart
placed_extender-requires-clause-apart g c = range_apart 0 c.k-k.result _ c.in_ok-given.ensures

pub placed_extender-requires-clause-wanted_below : goal.placed_extender-requires-clause-wanted_below
placed_extender-requires-clause-wanted_below g c =
    let n = g.C.StripeCode.n_of c.args.code.now in
    let room : c.k-k.result + (c.n.result - c.k-k.result) ≤ n = omega (arith, c.k-k.ensures.fits, c.n.ensures.n) in
    range_below c.k-k.result (c.n.result - c.k-k.result) _ c.in_ok-wanted.ensures n room
