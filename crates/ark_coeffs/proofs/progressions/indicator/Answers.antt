use Rattle.std.proofs.Common.{◌≡◌, ◌≢◌, ◌<◌, ℕ, sym, ap, subst, ◌∙◌, arith, get_or, [], ◌∷◌, ◌++◌, length, ◌+◌}
use Rattle.ark_math.specs.Field.{power}
use Rattle.ark_coeffs.proofs.Pushed.{pushed_more, power_after, power_two_on}
use Rattle.std.proofs.lemmas.Bool.{true≢false}
use Rattle.ark_coeffs.proofs.progressions.indicator.Goals as goal
use Rattle.ark_coeffs.proofs.progressions.indicator.Goals.{then-eq, else-eq}

pub loop-init : goal.loop-init
loop-init g c =
    let K = g.F.Field.field in
    let N = g.met.F.Field.field_laws in
    record {
      len = c.in_ok-items.ensures.len;
      next_is = sym (N.times_one c.args.offset);
      after_is = power_after K N c.args.offset c.args.root c.mul-after.result (g.met.F.Field.mul_law _ _ _ c.mul-after.ensures);
      here = λ i l. absurd (omega arith);
      elsewhere = λ i l. absurd (omega arith);
    }

pub loop-preserved : goal.loop-preserved
loop-preserved g c =
    let K = g.F.Field.field in
    let N = g.met.F.Field.field_laws in
    let i = c.loop.counter in
    let h = c.loop.invariant in
    let element = λ (k : ℕ). K.times c.args.offset (power K c.args.root k) in
    let same = g.met.F.Field.equality_law c.loop.next c.args.tau in
    let items : c.push.new.self.items ≡ c.loop.items.items ++ c.if-eq.push ∷ [] = c.in_ok-push.ensures.items in
    let len : length c.loop.items.items ≡ i = omega arith in
    let pushed : (c.loop.next ≡ c.args.tau → c.if-eq.push ≡ K.one) × (c.loop.next ≢ c.args.tau → c.if-eq.push ≡ K.zero) =
    elim c.if-eq.branch [
      | then-eq w ↦ (λ _. cc (g.met.F.Field.one_law), λ ne. absurd (ne (same.0 (sym c.eq.ensures ∙ w.if-eq.true))))
      | else-eq w ↦ (λ e. absurd (true≢false (sym (same.1 e) ∙ (sym c.eq.ensures ∙ w.if-eq.false))), λ _. cc (g.met.F.Field.zero_law))
    ] in
    record {
      len = c.in_ok-push.ensures.len ∙ ap (λ n. n + 1) h.len;
      next_is = h.after_is;
      after_is =
          g.met.F.Field.mul_law _ _ _ c.mul-later.ensures
          ∙ power_two_on K N c.args.offset c.args.root c.loop.next c.mul-square.result i h.next_is (g.met.F.Field.mul_law _ _ _ c.mul-square.ensures);
      here =
          subst (λ xs. (k : ℕ) → k < i + 1 → element k ≡ c.args.tau → get_or xs k K.zero ≡ K.one) (sym items)
          (pushed_more K.zero (λ k x. element k ≡ c.args.tau → x ≡ K.one) c.loop.items.items c.if-eq.push i len h.here (λ e. pushed.0 (h.next_is ∙ e)));
      elsewhere =
          subst (λ xs. (k : ℕ) → k < i + 1 → element k ≢ c.args.tau → get_or xs k K.zero ≡ K.zero) (sym items)
          (pushed_more K.zero (λ k x. element k ≢ c.args.tau → x ≡ K.zero) c.loop.items.items c.if-eq.push i len h.elsewhere (λ ne. pushed.1 (λ e. ne (sym h.next_is ∙ e))));
    }
