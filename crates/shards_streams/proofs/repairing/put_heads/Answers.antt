use Rattle.std.proofs.Common.{◌≡◌, ℕ, ◌<◌, length, get_or, List, [], map, sym, subst, ap, ◌∙◌, Vec, Global}
use Rattle.shards_format.specs.Headers.{head_bytes}
use Rattle.shards_streams.specs.declared.writer.PieceWriter.{PieceWriter}
use Rattle.shards_streams.specs.Writers.{Took}
use Rattle.shards_streams.proofs.Results.{ok_map}
use Rattle.shards_streams.proofs.repairing.put_heads.Goals as goal

pub returns-clause-took : goal.returns-clause-took
returns-clause-took g c =
    let code = g.C.StripeCode in
    let k = code.k_of c.args.code.now in
    let n = code.n_of c.args.code.now in
    let places = c.args.lost.now.places.now in
    let label = c.args.lost.now.label.now in
    let old = c.args.writers.now in
    let new = c.put_each.new.writers in
    let view : Vec ℕ Global → List ℕ = λ head. head.items in
    let heads = c.deref.result.now in
    let len : length heads ≡ length places = ap length c.deref.ensures.value ∙ c.in_ok-heads.ensures.len in
    let Before : Type 0 = (b : ℕ) (d : PieceWriter g.row.W.Denot) → b < length heads → Took g.W.Sink (get_or old b d) (get_or new b d) (get_or (map view heads) b []) in
    let After : Type 0 = (b : ℕ) (d : PieceWriter g.row.W.Denot) → b < length places → Took g.W.Sink (get_or old b d) (get_or new b d) (head_bytes k n (get_or places b 0) label) in
    let each : Before → After = λ took b d l. subst (λ (xs : List ℕ). Took g.W.Sink (get_or old b d) (get_or new b d) xs)
    (ap (λ (xs : List (Vec ℕ Global)). get_or (map view xs) b []) c.deref.ensures.value ∙ c.in_ok-heads.ensures.heads b l) (took b d (subst (λ m. b < m) (sym len) l)) in
    ok_map c.put_each.result Before After each c.put_each.ensures.took
