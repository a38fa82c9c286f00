use Rattle.std.proofs.Common.{◌≡◌, ◌+◌, ◌*◌, ◌%◌, ◌<◌, get_or, sym, subst, ap, ◌∙◌, inl, inr}
use Rattle.shards_format.specs.Stripes.{item}
use Rattle.shards_format.proofs.BlockLists.{small_rest}
use Rattle.shards_format.proofs.block_parts.put_block.Goals as goal

pub returns-clause-rows : goal.returns-clause-rows
returns-clause-rows g c = λ s own l small given j h.
    let code = g.C.StripeCode in
    let k = code.k_of c.args.code.now in
    let n = code.n_of c.args.code.now in
    let count = c.args.given.now.stripes in
    let numbers = c.args.given.now.numbers.now in
    elim (c.requires.missing.all j h) [
      | inl w ↦
          let row : w.0 < k = subst (λ m. w.0 < m) c.requires.places w.1 in
          let below : get_or c.args.given.now.places.now w.0 0 < c.k.result = subst (λ p. p < c.k.result) (sym w.2) (subst (λ m. j < m) (sym c.k.ensures.k) h) in
          let number : get_or numbers (w.0 * count + s) 0 ≡ own j =
          given w.0 row ∙ ap (code.number k n own) w.2 ∙ g.met.C.StripeCode.systematic k n own j c.k.ensures.has h (small j h) in
          c.in_ok-put_missing.ensures.others j s l (λ v. c.requires.missing.lacking v.0 v.1 (w.0, w.1, w.2 ∙ sym v.2))
          ∙ sym (ap (λ p. item c.put_rows.new.bytes (p * count + s)) w.2) ∙ c.put_rows.ensures.rows w.0 s w.1 l below
          ∙ ap (λ x. x % 65536) number ∙ small_rest (own j) (small j h)
      | inr w ↦ c.in_ok-put_missing.ensures.rows s own l small given j w
    ]
