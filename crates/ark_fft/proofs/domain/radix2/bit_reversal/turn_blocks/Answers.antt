use Rattle.std.proofs.Common.{◌≡◌, ◌≢◌, ℕ, ◌+◌, ◌*◌, inl, inr, arith, subst, sym, ◌∙◌, ⊎_elim}
use Rattle.std.proofs.lemmas.Bool.{cases_eq}
use Rattle.ark_fft.specs.Halves.{IsDealt}
use Rattle.ark_fft.proofs.Places.{dealt_here, dealt_before}
use Rattle.ark_fft.proofs.domain.radix2.bit_reversal.turn_blocks.Goals as goal

pub loop-k-preserved : goal.loop-k-preserved
loop-k-preserved g c =
    let i = c.loop-k.k in
    let v = c.loop-k.invariant in
    let f = c.turn_block.ensures in
    let same = λ (e : ℕ) (d : g.row.T.Denot). v.rest (4 * i + e) d (omega arith) in
    record {
      first = λ k l. ⊎_elim
          (λ (e : k ≡ i). subst (λ t. IsDealt c.args.first.now c.args.second.now c.args.third.now c.args.fourth.now 0 t c.turn_block.new.first) (sym e) (dealt_here i 0 _ _ _ _ _ _ _ _ _ (λ d. same 0 d) f.first))
          (λ (ne : k ≢ i). dealt_before k 0 _ _ _ _ _ _ (λ j b d. (f.rest (4 * k + j) d (inl (omega arith))).0) (v.first k (omega arith)))
          (cases_eq k i);
      second = λ k l. ⊎_elim
          (λ (e : k ≡ i). subst (λ t. IsDealt c.args.first.now c.args.second.now c.args.third.now c.args.fourth.now 2 t c.turn_block.new.second) (sym e) (dealt_here i 2 _ _ _ _ _ _ _ _ _ (λ d. same 2 d) f.second))
          (λ (ne : k ≢ i). dealt_before k 2 _ _ _ _ _ _ (λ j b d. (f.rest (4 * k + j) d (inl (omega arith))).1) (v.second k (omega arith)))
          (cases_eq k i);
      third = λ k l. ⊎_elim
          (λ (e : k ≡ i). subst (λ t. IsDealt c.args.first.now c.args.second.now c.args.third.now c.args.fourth.now 1 t c.turn_block.new.third) (sym e) (dealt_here i 1 _ _ _ _ _ _ _ _ _ (λ d. same 1 d) f.third))
          (λ (ne : k ≢ i). dealt_before k 1 _ _ _ _ _ _ (λ j b d. (f.rest (4 * k + j) d (inl (omega arith))).2) (v.third k (omega arith)))
          (cases_eq k i);
      fourth = λ k l. ⊎_elim
          (λ (e : k ≡ i). subst (λ t. IsDealt c.args.first.now c.args.second.now c.args.third.now c.args.fourth.now 3 t c.turn_block.new.fourth) (sym e) (dealt_here i 3 _ _ _ _ _ _ _ _ _ (λ d. same 3 d) f.fourth))
          (λ (ne : k ≢ i). dealt_before k 3 _ _ _ _ _ _ (λ j b d. (f.rest (4 * k + j) d (inl (omega arith))).3) (v.fourth k (omega arith)))
          (cases_eq k i);
      rest = λ j d l.
          let n = f.rest j d (inr (omega arith)) in
          let o = v.rest j d (omega arith) in
          (n.0 ∙ o.0, n.1 ∙ o.1, n.2 ∙ o.2, n.3 ∙ o.3);
    }
