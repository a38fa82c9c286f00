use Rattle.std.proofs.Common.{◌≡◌, ◌+◌, ◌/◌, ◌%◌, ◌<◌, ◌==◌, if◌then◌else◌, [], ◌∷◌, length, sym, ap, ◌∙◌, arith, below_more}
use Rattle.std.proofs.lemmas.List.{get_or_read, get_or_push, get_or_append_left, length-append}
use Rattle.ark_math.specs.Univariate.{of_list}
use Rattle.ark_bit_reversed.proofs.Tables.{next_inverse}
use Rattle.ark_bit_reversed.proofs.table.inverses.Goals as goal
use Rattle.ark_bit_reversed.proofs.table.inverses.Goals.{then-i-eq0, else-i-eq0}

pub loop-i-preserved : goal.loop-i-preserved
loop-i-preserved g c =
    let K = g.F.Field.field in
    let v = c.loop-i.invariant in
    let i = c.loop-i.i in
    let ys = c.loop-i.inverses.items in
    let y = c.if-i-eq0.push in
    let roots = c.args.roots.now in
    let square = c.index-square.result.now in
    let new = c.in_ok-push-2.ensures.items in
    record {
      len = ap length new ∙ length-append ys (y ∷ []) ∙ ap (λ t. t + 1) v.len;
      done = λ x R.
          let within : i / 2 < length ys = omega (arith, v.len, c.loop-i.auto.i) in
          let known = get_or_read ys (i / 2) square within c.index-square.ensures K.zero in
          let made : y ≡ (if i % 2 == 0 then K.times (x (i + i)) square else K.negated (K.times (x (i + i)) square)) = elim c.if-i-eq0.branch [
            | then-i-eq0 w ↦
                w.push-is
                ∙ g.met.F.Field.mul_law _ _ _ w.mul.ensures
                ∙ ap (λ t. K.times t square) (get_or_read roots i w.index-roots-i.result c.loop-i-test.true w.index-roots-i.is K.zero ∙ R.each i c.loop-i-test.true)
                ∙ sym (ap (λ t. if t == 0 then K.times (x (i + i)) square else K.negated (K.times (x (i + i)) square)) w.if-i-eq0.true)
            | else-i-eq0 w ↦
                let odd : i % 2 ≡ 1 = omega (arith, w.if-i-eq0.false) in
                w.push-is
                ∙ g.met.F.Field.neg_law _ _ w.neg.ensures
                ∙ ap K.negated (g.met.F.Field.mul_law _ _ _ w.mul-else-i-eq0.ensures
                ∙ ap (λ t. K.times t square) (get_or_read roots i w.index-roots-i-else-i-eq0.result c.loop-i-test.true w.index-roots-i-else-i-eq0.is K.zero ∙ R.each i c.loop-i-test.true))
                ∙ sym (ap (λ t. if t == 0 then K.times (x (i + i)) square else K.negated (K.times (x (i + i)) square)) odd)
          ] in
          below_more _ i
          (λ k l. ap (λ t. K.times t (x (k + k))) (ap (λ t. of_list K t k) new ∙ get_or_append_left ys (y ∷ []) K.zero k (omega (arith, l, v.len))) ∙ v.done x R k l)
          (ap (λ t. K.times t (x (i + i))) (ap (λ t. of_list K t i) new ∙ get_or_push ys y K.zero i v.len ∙ made)
          ∙ next_inverse K g.met.F.Field.field_laws x (length roots + length roots) R.reversed i (omega (arith, c.loop-i-test.true)) square
          (ap (λ t. K.times t (x (i / 2 + i / 2))) known ∙ v.done x R (i / 2) (omega (arith, c.loop-i.auto.i))));
    }
