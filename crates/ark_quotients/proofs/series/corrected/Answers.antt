use Rattle.std.proofs.Common.{◌≡◌, ℕ, ◌+◌, ◌-◌, ◌<◌, ◌≤◌, ◌∷◌, [], ◌++◌, length, get_or, sym, ap, subst, ◌∙◌, arith}
use Rattle.ark_math.specs.Univariate.{of_list, opposite}
use Rattle.ark_coeffs.proofs.Pushed.{pushed_more}
use Rattle.ark_quotients.proofs.series.corrected.Goals.{then-i-known, else-i-known}
use Rattle.ark_quotients.proofs.series.corrected.Goals as goal

pub loop-i-preserved : goal.loop-i-preserved
loop-i-preserved g c =
    let K = g.F.Field.field in
    let i = c.loop-i.i in
    let n = c.args.known in
    let h = c.loop-i.invariant in
    let xs = c.loop-i.corrected.items in
    let x = c.if-i-known.push in
    let first = of_list K c.args.coeffs.now in
    let later = opposite K (of_list K c.args.correction.now) in
    let len : length xs ≡ i = omega arith in
    let pushed : (i < n → x ≡ first i) × (n ≤ i → x ≡ later (i - n)) =
    elim c.if-i-known.branch [
      | then-i-known w ↦ (λ _. w.push-is ∙ w.coefficient_at.ensures, λ l. absurd (let t = w.if-i-known.true in omega arith))
      | else-i-known w ↦ (λ l. absurd (let t = w.if-i-known.false in omega arith), λ _. w.push-is ∙ g.met.F.Field.neg_law _ _ w.neg.ensures ∙ ap K.negated w.coefficient_at-else-i-known.ensures)
    ] in
    record {
      len = omega (arith, c.in_ok-push.ensures.len, h.len);
      kept =
          subst (λ ys. (k : ℕ) → k < i + 1 → k < n → get_or ys k K.zero ≡ first k) {x = xs ++ x ∷ []} (sym c.in_ok-push.ensures.items)
          (pushed_more K.zero (λ k y. k < n → y ≡ first k) xs x i len h.kept pushed.0);
      rest =
          subst (λ ys. (k : ℕ) → k < i + 1 → n ≤ k → get_or ys k K.zero ≡ later (k - n)) {x = xs ++ x ∷ []} (sym c.in_ok-push.ensures.items)
          (pushed_more K.zero (λ k y. n ≤ k → y ≡ later (k - n)) xs x i len h.rest pushed.1);
    }
