use Rattle.std.proofs.Common.{◌≡◌, ℕ, ◌<◌, ◌+◌, ◌*◌, ◌^◌, length, get_or, List, [], map, sym, subst, ap, ◌∙◌, Vec, Global}
use Rattle.shards_format.specs.Stripes.{stripe, stripes, numbers_at}
use Rattle.shards_format.specs.Pieces.{SpellsNumbers, chunk}
use Rattle.shards_format.proofs.BlockLists.{item_small, numbers_len, number_of, row_of_numbers}
use Rattle.shards_format.proofs.placed_parts.parts_at.Goals as goal

pub returns-clause-parts : goal.returns-clause-parts
returns-clause-parts g c = λ block small count_is given b h.
    let code = g.C.StripeCode in
    let k = code.k_of c.args.code.now in
    let n = code.n_of c.args.code.now in
    let count = c.args.count in
    let all = stripes k (length block) in
    let wanted = c.args.extender.now.wanted.items in
    let place = get_or wanted b 0 in
    let found = c.in_ok-found.found.items in
    let view : Vec ℕ Global → List ℕ = λ part. part.items in
    let part = get_or (map view c.in_ok-parts.parts.items) b [] in
    let row : (s : ℕ) → s < count → get_or found (b * count + s) 0 ≡ code.number k n (stripe all block s) place = λ s l.
    c.in_ok-found.ensures.numbers s (stripe count block s) l (λ j _. item_small block (j * count + s) small)
    (λ a q. given a s q l ∙ ap (λ (xs : List ℕ). code.number k n (stripe count block s) (get_or xs a 0)) (sym c.deref.ensures.value)) b h
    ∙ ap (λ m. code.number k n (stripe m block s) place) count_is in
    let numbers : chunk count b c.deref-3.result.now ≡ numbers_at code.number k n block place =
    ap (λ (xs : List ℕ). chunk count b xs) c.deref-3.ensures.value ∙ row_of_numbers code.number k n place block count b (length wanted) found h c.in_ok-found.ensures.len count_is row in
    let inside : b < length c.deref-2.result.now = subst (λ (xs : List ℕ). b < length xs) (sym c.deref-2.ensures.value) h in
    let made : SpellsNumbers k place (numbers_at code.number k n block place) part =
    subst (λ (xs : List ℕ). SpellsNumbers k place xs part) numbers
    (subst (λ (xs : List ℕ). SpellsNumbers k (get_or xs b 0) (chunk count b c.deref-3.result.now) part) c.deref-2.ensures.value
    (subst (λ m. SpellsNumbers m (get_or c.deref-2.result.now b 0) (chunk count b c.deref-3.result.now) part) c.k.ensures.k (c.in_ok-parts.ensures.parts b inside))) in
    made.is (λ below s l.
    let own = item_small block (place * all + s) small in
    let number = number_of code.number k n place block s (subst (λ m. s < m) (numbers_len code.number k n place block) l) in
    subst (λ x. x < 2 ^ 16) (sym (number ∙ g.met.C.StripeCode.systematic k n (stripe all block s) place c.k.ensures.has below own)) own)
