use Rattle.std.proofs.Common.{◌≡◌, ℕ, ◌<◌, ◌⊎◌, inr, length, get_or, List, [], map, sym, subst, ap, ◌∙◌, Vec, Global}
use Rattle.shards_streams.specs.declared.writer.PieceWriter.{PieceWriter}
use Rattle.shards_streams.specs.Writers.{Took, TookSome}
use Rattle.shards_streams.specs.Splitting.{TookParts, TookPartsSome}
use Rattle.shards_streams.proofs.Results.{ok_map, err_map}
use Rattle.shards_streams.proofs.splitting.put_block.Goals as goal

pub returns-clause-took : goal.returns-clause-took
returns-clause-took g c =
    let code = g.C.StripeCode in
    let k = code.k_of c.args.code.now in
    let n = code.n_of c.args.code.now in
    let view : Vec ℕ Global → List ℕ = λ part. part.items in
    let parts = c.in_ok-parts.parts.items in
    let len : length c.deref.result.now ≡ n = ap length c.deref.ensures.value ∙ c.in_ok-parts.ensures.len in
    let Before : Type 0 = (i : ℕ) (d : PieceWriter g.row.W.Denot) → i < length c.deref.result.now
    → Took g.W.Sink (get_or c.args.writers.now i d) (get_or c.put_each.new.writers i d) (get_or (map view c.deref.result.now) i []) in
    let After : Type 0 = TookParts g.W.Sink code.number k n c.args.block.now c.args.writers.now c.put_each.new.writers in
    let each : Before → After = λ took i d h. record {
      part = get_or (map view parts) i [];
      is = c.in_ok-parts.ensures.parts i h;
      took = subst (λ (xs : List (Vec ℕ Global)). Took g.W.Sink (get_or c.args.writers.now i d) (get_or c.put_each.new.writers i d) (get_or (map view xs) i [])) c.deref.ensures.value
          (took i d (subst (λ m. i < m) (sym len) h));
    } in
    ok_map c.put_each.result Before After each c.put_each.ensures.took

pub returns-clause-some : goal.returns-clause-some
returns-clause-some g c =
    let code = g.C.StripeCode in
    let k = code.k_of c.args.code.now in
    let n = code.n_of c.args.code.now in
    let view : Vec ℕ Global → List ℕ = λ part. part.items in
    let parts = c.in_ok-parts.parts.items in
    let len : length c.deref.result.now ≡ n = ap length c.deref.ensures.value ∙ c.in_ok-parts.ensures.len in
    let Before : Type 0 = (i : ℕ) (d : PieceWriter g.row.W.Denot) → i < length c.deref.result.now
    → TookSome g.W.Sink (get_or c.args.writers.now i d) (get_or c.put_each.new.writers i d) (get_or (map view c.deref.result.now) i []) in
    let After : Type 0 = (c.put_each.new.writers ≡ c.args.writers.now) ⊎ TookPartsSome g.W.Sink code.number k n c.args.block.now c.args.writers.now c.put_each.new.writers in
    let each : Before → After = λ took. inr (λ i d h. record {
      part = get_or (map view parts) i [];
      is = c.in_ok-parts.ensures.parts i h;
      took = subst (λ (xs : List (Vec ℕ Global)). TookSome g.W.Sink (get_or c.args.writers.now i d) (get_or c.put_each.new.writers i d) (get_or (map view xs) i [])) c.deref.ensures.value
          (took i d (subst (λ m. i < m) (sym len) h));
    }) in
    err_map c.put_each.result Before After each c.put_each.ensures.some
