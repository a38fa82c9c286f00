use Rattle.std.proofs.Common.{◌≡◌, ℕ, ◌<◌, ◌+◌, arith, length, get_or, List, [], ◌∷◌, ◌++◌, map, sym, subst, ap, ◌∙◌, below_more, Vec, Global}
use Rattle.std.proofs.lemmas.List.{length_push}
use Rattle.shards_format.specs.Headers.{head_bytes}
use Rattle.shards_format.proofs.BlockLists.{pushed_before, pushed_here}
use Rattle.shards_streams.proofs.splitting.heads_at.Goals as goal

pub loop-b-preserved : goal.loop-b-preserved
loop-b-preserved g c =
    let b = c.loop-b.b in
    let places = c.args.places.now in
    let label = c.args.label.now in
    let view : Vec ℕ Global → List ℕ = λ head. head.items in
    let heads = c.loop-b.heads.items in
    let head = c.extend_from_slice.new.self in
    let is : head.items ≡ head_bytes c.k-k.result c.n-n.result (get_or places b 0) label =
    c.in_ok-extend_from_slice.ensures.items ∙ ap (λ xs. xs ++ label) c.in_ok-head.ensures in
    let pushed : c.push.new.self.items ≡ heads ++ head ∷ [] = c.in_ok-push.ensures.items in
    record {
      len = ap length pushed ∙ length_push heads head ∙ ap (λ m. m + 1) c.loop-b.invariant.len;
      each = subst (λ xs. (j : ℕ) → j < b + 1 → get_or (map view xs) j [] ≡ head_bytes c.k-k.result c.n-n.result (get_or places j 0) label) (sym pushed) (below_more _ _
          (λ j h. pushed_before view heads head [] j (omega (arith, h, c.loop-b.invariant.len)) ∙ c.loop-b.invariant.each j h)
          (pushed_here view heads head [] b c.loop-b.invariant.len ∙ is));
    }
