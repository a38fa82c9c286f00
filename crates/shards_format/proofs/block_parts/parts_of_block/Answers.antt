use Rattle.std.proofs.Common.{◌≡◌, ℕ, ◌<◌, ◌+◌, arith, length, get_or, List, [], ◌∷◌, ◌++◌, map, sym, subst, ap, ◌∙◌, below_more, Vec, Global}
use Rattle.std.proofs.lemmas.List.{length_push}
use Rattle.shards_format.specs.Stripes.{numbers_at}
use Rattle.shards_format.specs.Parts.{IsPart}
use Rattle.shards_format.proofs.BlockLists.{pushed_before, pushed_here}
use Rattle.shards_format.proofs.block_parts.parts_of_block.Goals as goal

pub loop-i-preserved : goal.loop-i-preserved
loop-i-preserved g c =
    let code = g.C.StripeCode in
    let k = code.k_of c.args.code.now in
    let n = code.n_of c.args.code.now in
    let block = c.args.block.now in
    let i = c.loop-i.i in
    let view : Vec ℕ Global → List ℕ = λ part. part.items in
    let parts = c.loop-i.parts.items in
    let part = c.in_ok-part_at.field-0 in
    let pushed : c.push.new.self.items ≡ parts ++ part ∷ [] = c.in_ok-push.ensures.items in
    let Is : ℕ → List ℕ → Type 0 = λ j xs. IsPart k j (numbers_at code.number k n block j) xs in
    record {
      len = ap length pushed ∙ length_push parts part ∙ ap (λ m. m + 1) c.loop-i.invariant.len;
      parts = subst (λ xs. (j : ℕ) → j < i + 1 → Is j (get_or (map view xs) j [])) (sym pushed) (below_more _ _
          (λ j h. subst (Is j) (sym (pushed_before view parts part [] j (omega (arith, h, c.loop-i.invariant.len)))) (c.loop-i.invariant.parts j h))
          (subst (Is i) (sym (pushed_here view parts part [] i c.loop-i.invariant.len)) c.in_ok-part_at.ensures));
    }
