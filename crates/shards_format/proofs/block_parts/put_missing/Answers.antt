use Rattle.std.proofs.Common.{◌≡◌, ℕ, ◌+◌, ◌*◌, ◌%◌, ◌<◌, length, get_or, List, sym, subst, ap, ◌∙◌}
use Rattle.shards_format.specs.Stripes.{item}
use Rattle.shards_format.proofs.BlockLists.{small_rest}
use Rattle.shards_format.proofs.block_parts.put_missing.Goals as goal

pub returns-clause-rows : goal.returns-clause-rows
returns-clause-rows g c = λ s own l small given j w.
    let code = g.C.StripeCode in
    let k = code.k_of c.args.code.now in
    let n = code.n_of c.args.code.now in
    let count = c.args.given.now.stripes in
    let wanted = c.args.extender.now.wanted.items in
    let b = w.0 in
    let below : j < k = subst (λ p. p < k) w.2 (c.requires.missing.below b w.1) in
    let place : get_or c.deref.result.now b 0 ≡ j = ap (λ (xs : List ℕ). get_or xs b 0) c.deref.ensures.value ∙ w.2 in
    let inside : b < length c.deref.result.now = subst (λ m. b < m) (sym (ap length c.deref.ensures.value)) w.1 in
    let put = c.put_rows.ensures.rows b s inside l (subst (λ p. p < c.k-k.result) (sym place) (subst (λ m. j < m) (sym c.k-k.ensures.k) below)) in
    let number : get_or c.deref-2.result.now (b * count + s) 0 ≡ own j =
    ap (λ (xs : List ℕ). get_or xs (b * count + s) 0) c.deref-2.ensures.value
    ∙ c.in_ok-numbers.ensures.numbers s own l small given b w.1 ∙ ap (code.number k n own) w.2
    ∙ g.met.C.StripeCode.systematic k n own j c.k-k.ensures.has below (small j below) in
    sym (ap (λ p. item c.put_rows.new.bytes (p * count + s)) place) ∙ put ∙ ap (λ x. x % 65536) number ∙ small_rest (own j) (small j below)
