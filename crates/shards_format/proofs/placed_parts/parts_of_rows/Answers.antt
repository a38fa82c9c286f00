use Rattle.std.proofs.Common.{◌≡◌, ℕ, ◌<◌, ◌+◌, ◌-◌, ◌*◌, arith, length, get_or, take, drop, List, [], ◌∷◌, ◌++◌, map, sym, subst, ap, ◌∙◌, below_more, Vec, Global}
use Rattle.std.proofs.lemmas.List.{length_push}
use Rattle.shards_format.specs.Pieces.{SpellsNumbers, chunk}
use Rattle.shards_format.proofs.BlockLists.{pushed_before, pushed_here}
use Rattle.shards_format.proofs.placed_parts.parts_of_rows.Goals as goal

pub loop-b-preserved : goal.loop-b-preserved
loop-b-preserved c =
    let k = c.args.k in
    let count = c.args.count in
    let places = c.args.places.now in
    let numbers = c.args.numbers.now in
    let b = c.loop-b.b in
    let view : Vec ℕ Global → List ℕ = λ part. part.items in
    let parts = c.loop-b.parts.items in
    let part = c.in_ok-part_of_row.field-0 in
    let pushed : c.push.new.self.items ≡ parts ++ part ∷ [] = c.in_ok-push.ensures.items in
    let Is : ℕ → List ℕ → Type 0 = λ j xs. SpellsNumbers k (get_or places j 0) (chunk count j numbers) xs in
    let width : b * count + count - b * count ≡ count = omega arith in
    let this : Is b part.items = subst (λ w. SpellsNumbers k (get_or places b 0) (take w (drop (b * count) numbers)) part.items) width c.in_ok-part_of_row.ensures in
    record {
      len = ap length pushed ∙ length_push parts part ∙ ap (λ m. m + 1) c.loop-b.invariant.len;
      parts = subst (λ xs. (j : ℕ) → j < b + 1 → Is j (get_or (map view xs) j [])) (sym pushed) (below_more _ _
          (λ j h. subst (Is j) (sym (pushed_before view parts part [] j (omega (arith, h, c.loop-b.invariant.len)))) (c.loop-b.invariant.parts j h))
          (subst (Is b) (sym (pushed_here view parts part [] b c.loop-b.invariant.len)) this));
    }
