use Rattle.std.proofs.Common.{◌≡◌, ℕ, ◌+◌, ◌-◌, ◌*◌, ◌<◌, arith, length, get_or, List, sym, subst, ap, ap₂, ◌∙◌}
use Rattle.shards_format.specs.Stripes.{item, stripe, stripes}
use Rattle.shards_format.specs.Files.{AreApart}
use Rattle.shards_format.proofs.BlockLists.{item_small, row_place}
use Rattle.shards_format.proofs.PlaceLists.{range_length, range_at}
use Rattle.shards_format.proofs.block_parts.parity_numbers.Goals as goal

pub invariant_of-given : goal.invariant_of-given
invariant_of-given g c =
    let k = g.C.StripeCode.k_of c.args.code.now in
    let count = c.stripes-count.result in
    let places : length c.deref.result.now ≡ k = ap length c.deref.ensures.value ∙ range_length 0 k _ c.requires.given in
    record {
      apart = subst AreApart (sym c.deref.ensures.value) c.args.extender.now.apart;
      len = ap length c.deref-2.ensures.value ∙ c.in_ok-items.ensures.len ∙ ap (λ m. m * count) (c.k-k.ensures.k ∙ sym places);
    }

pub extended-requires-clause-wanted : goal.extended-requires-clause-wanted
extended-requires-clause-wanted g c =
    let k = g.C.StripeCode.k_of c.args.code.now in
    let n = g.C.StripeCode.n_of c.args.code.now in
    let len = range_length k (n - k) c.args.extender.now.wanted.items c.requires.wanted in
    omega (arith, len, c.requires.few)

pub returns-clause-len : goal.returns-clause-len
returns-clause-len g c =
    let k = g.C.StripeCode.k_of c.args.code.now in
    let n = g.C.StripeCode.n_of c.args.code.now in
    let count_is : c.stripes-count.result ≡ stripes k (length c.args.block.now) = c.stripes-count.ensures ∙ ap (λ m. stripes m (length c.args.block.now)) c.k-k.ensures.k in
    c.in_ok-numbers.ensures.len ∙ ap₂ (λ x y. x * y) (range_length k (n - k) _ c.requires.wanted) count_is

pub returns-clause-numbers : goal.returns-clause-numbers
returns-clause-numbers g c =
    let code = g.C.StripeCode in
    let k = code.k_of c.args.code.now in
    let n = code.n_of c.args.code.now in
    let block = c.args.block.now in
    let count = c.stripes-count.result in
    let items = c.in_ok-items.items.items in
    let places = c.args.extender.now.given.items in
    let wanted = c.args.extender.now.wanted.items in
    let count_is : count ≡ stripes k (length block) = c.stripes-count.ensures ∙ ap (λ m. stripes m (length block)) c.k-k.ensures.k in
    let small : (i : ℕ) → get_or block i 0 < 256 = λ i. omega (arith, c.type_inv.block i) in
    λ b s h l.
    let all = stripes k (length block) in
    let own : ℕ → ℕ = stripe all block s in
    let inside : s < count = subst (λ m. s < m) (sym count_is) l in
    let fits : (j : ℕ) → j < k → own j < 65536 = λ j _. item_small block (j * all + s) small in
    let given : (a : ℕ) → a < k → get_or c.deref-2.result.now (a * count + s) 0 ≡ code.number k n own (get_or c.deref.result.now a 0) = λ a h.
    let row : a < c.k-k.result = subst (λ m. a < m) (sym c.k-k.ensures.k) h in
    let at : a < length places = subst (λ m. a < m) (sym (range_length 0 k places c.requires.given)) h in
    let place : get_or c.deref.result.now a 0 ≡ a = ap (λ (xs : List ℕ). get_or xs a 0) c.deref.ensures.value ∙ range_at 0 k places c.requires.given a at ∙ (let e : 0 + a ≡ a = omega arith in e) in
    ap (λ (xs : List ℕ). get_or xs (a * count + s) 0) c.deref-2.ensures.value
    ∙ c.in_ok-items.ensures.items (a * count + s) (row_place a s c.k-k.result count row inside)
    ∙ ap (λ m. item block (a * m + s)) count_is
    ∙ sym (g.met.C.StripeCode.systematic k n own a c.k-k.ensures.has h (fits a h))
    ∙ ap (code.number k n own) (sym place) in
    let row : b < length wanted = subst (λ m. b < m) (sym (range_length k (n - k) wanted c.requires.wanted)) h in
    ap (λ m. get_or c.in_ok-numbers.numbers.items (b * m + s) 0) (sym count_is)
    ∙ c.in_ok-numbers.ensures.numbers s own inside fits given b row
    ∙ ap (code.number k n own) (range_at k (n - k) wanted c.requires.wanted b row)
