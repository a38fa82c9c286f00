use Rattle.std.proofs.Common.{◌≡◌, ◌<◌, arith, length, get_or, sym, subst, ap, ◌∙◌}
use Rattle.std.specs.List.{range_with_len}
use Rattle.shards_format.specs.Headers.{head_bytes}
use Rattle.shards_format.proofs.PlaceLists.{range_at, range_below, range_length}
use Rattle.shards_streams.proofs.Results.{if_ok_map}
use Rattle.shards_streams.proofs.splitting.heads_of.Goals as goal

pub heads_at-requires-clause-below : goal.heads_at-requires-clause-below
heads_at-requires-clause-below g c =
    let n = g.C.StripeCode.n_of c.args.code.now in
    let is : c.deref.result.now ≡ range_with_len 0 c.n.result = c.deref.ensures.value ∙ c.in_ok-places.ensures in
    range_below 0 c.n.result c.deref.result.now is n (omega (arith, c.n.ensures.n))

pub returns-clause-len : goal.returns-clause-len
returns-clause-len g c =
    let n = g.C.StripeCode.n_of c.args.code.now in
    let is : c.deref.result.now ≡ range_with_len 0 c.n.result = c.deref.ensures.value ∙ c.in_ok-places.ensures in
    let count : length c.deref.result.now ≡ n = range_length 0 c.n.result c.deref.result.now is ∙ c.n.ensures.n in
    if_ok_map c.heads_at.result _ _ (λ heads len. len ∙ count) c.heads_at.ensures.len

pub returns-clause-heads : goal.returns-clause-heads
returns-clause-heads g c =
    let code = g.C.StripeCode in
    let k = code.k_of c.args.code.now in
    let n = code.n_of c.args.code.now in
    let label = c.args.label.now in
    let places = c.deref.result.now in
    let is : places ≡ range_with_len 0 c.n.result = c.deref.ensures.value ∙ c.in_ok-places.ensures in
    let count : length places ≡ n = range_length 0 c.n.result places is ∙ c.n.ensures.n in
    if_ok_map c.heads_at.result _ _ (λ heads each i h.
    let here : i < length places = subst (λ m. i < m) (sym count) h in
    let at = range_at 0 c.n.result places is i here in
    let same : get_or places i 0 ≡ i = omega (arith, at) in
    each i here ∙ ap (λ j. head_bytes k n j label) same) c.heads_at.ensures.heads
