use Rattle.std.proofs.Common.{◌≡◌, ◌≢◌, ◌+◌, ◌*◌, ◌<◌, inl, inr, length, ap, sym, subst, ◌∙◌, ⊎_elim, arith}
use Rattle.std.proofs.lemmas.Bool.{cases_eq}
use Rattle.std.proofs.lemmas.List.{get_or_read}
use Rattle.ark_math.specs.Univariate.{of_list, value_below}
use Rattle.ark_bit_reversed.proofs.FourItems.{four_len, four_values_written, four_written, written_nowhere_else}
use Rattle.ark_bit_reversed.proofs.forward.fours.Goals as goal

pub loop-r-preserved : goal.loop-r-preserved
loop-r-preserved g c =
    let K = g.F.Field.field in
    let N = g.met.F.Field.field_laws in
    let v = c.loop-r.invariant in
    let i = c.loop-r.r in
    let n = 4 * i in
    let block = c.args.start + i in
    let old = c.args.values.now in
    let now = c.loop-r.values in
    let roots = c.args.roots.now in
    let f = c.four-a.ensures in
    let e = c.four-a.result in
    let inside : n + 3 < length now = omega (arith, v.len, c.requires.whole, c.loop-r-test.true) in
    let room : 4 * block + 3 < length roots + length roots = omega (arith, c.requires.within, c.requires.whole, c.loop-r-test.true) in
    let new = four_written now n e.0 e.1 e.2 e.3 K.zero inside in
    let here : n + 0 ≡ n = omega arith in
    let a0 : c.index-values-r.result ≡ of_list K old (n + 0) = get_or_read now _ _ (omega (arith, inside)) c.index-values-r.is K.zero ∙ v.rest n (omega arith) ∙ ap (of_list K old) (sym here) in
    let a1 : c.index-values-r-in-loop-r.result ≡ of_list K old (n + 1) = get_or_read now _ _ (omega (arith, inside)) c.index-values-r-in-loop-r.is K.zero ∙ v.rest (n + 1) (omega arith) in
    let a2 : c.index-values-r-in-loop-r-2.result ≡ of_list K old (n + 2) = get_or_read now _ _ (omega (arith, inside)) c.index-values-r-in-loop-r-2.is K.zero ∙ v.rest (n + 2) (omega arith) in
    let a3 : c.index-values-r-in-loop-r-3.result ≡ of_list K old (n + 3) = get_or_read now _ _ (omega (arith, inside)) c.index-values-r-in-loop-r-3.is K.zero ∙ v.rest (n + 3) (omega arith) in
    let t : c.index-roots-block.result ≡ of_list K roots block = get_or_read roots _ _ (omega (arith, room)) c.index-roots-block.is K.zero in
    let low : c.index-roots-block-in-loop-r.result ≡ of_list K roots (2 * block) = get_or_read roots _ _ (omega (arith, room)) c.index-roots-block-in-loop-r.is K.zero in
    let high : c.index-roots-block-in-loop-r-2.result ≡ of_list K roots (2 * block + 1) = get_or_read roots _ _ (omega (arith, room)) c.index-roots-block-in-loop-r-2.is K.zero in
    record {
      len = four_len now n e.0 e.1 e.2 e.3 K.zero inside ∙ v.len;
      done = λ x are r p l s. ⊎_elim
          (λ (is : r ≡ i).
          let two : block + block ≡ 2 * block = omega arith in
          let four : 2 * block + 2 * block ≡ 4 * block = omega arith in
          let next : (2 * block + 1) + (2 * block + 1) ≡ 4 * block + 2 = omega arith in
          subst (λ u. of_list K new (4 * u + p) ≡ value_below K 4 (λ j. of_list K old (4 * u + j)) (x (4 * (c.args.start + u) + p))) (sym is)
          (four_values_written K N (length roots + length roots) x are.reversed block n (λ j. of_list K old (n + j)) now
          c.index-roots-block.result c.index-roots-block-in-loop-r.result c.index-roots-block-in-loop-r-2.result
          c.index-values-r.result c.index-values-r-in-loop-r.result c.index-values-r-in-loop-r-2.result c.index-values-r-in-loop-r-3.result
          e.0 e.1 e.2 e.3 inside room f
          (t ∙ are.each block (omega (arith, room)) ∙ ap x two)
          (low ∙ are.each (2 * block) (omega (arith, room)) ∙ ap x four)
          (high ∙ are.each (2 * block + 1) (omega (arith, room)) ∙ ap x next)
          a0 a1 a2 a3 p s))
          (λ (ne : r ≢ i). written_nowhere_else now n e.0 e.1 e.2 e.3 K.zero inside (4 * r + p) (inl (omega (arith, l, ne, s))) ∙ v.done x are r p (omega (arith, l, ne)) s)
          (cases_eq r i);
      rest = λ k l. written_nowhere_else now n e.0 e.1 e.2 e.3 K.zero inside k (inr (omega (arith, l))) ∙ v.rest k (omega (arith, l));
    }
