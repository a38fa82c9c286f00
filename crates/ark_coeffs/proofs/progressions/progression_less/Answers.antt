use Rattle.std.proofs.Common.{◌≡◌, ◌+◌, ◌<◌, ℕ, get_or, sym, ap, subst, ◌∙◌, arith}
use Rattle.ark_math.specs.Field.{power, minus}
use Rattle.ark_coeffs.proofs.Pushed.{pushed_more, power_after, power_two_on}
use Rattle.ark_coeffs.proofs.progressions.progression_less.Goals as goal

pub loop-init : goal.loop-init
loop-init g c =
    let K = g.F.Field.field in
    let N = g.met.F.Field.field_laws in
    record {
      len = c.in_ok-items.ensures.len;
      next_is = sym (N.times_one c.args.first);
      after_is = power_after K N c.args.first c.args.ratio c.mul-after.result (g.met.F.Field.mul_law _ _ _ c.mul-after.ensures);
      before = λ i l. absurd (omega arith);
    }

pub loop-preserved : goal.loop-preserved
loop-preserved g c =
    let K = g.F.Field.field in
    let N = g.met.F.Field.field_laws in
    let i = c.loop.counter in
    let h = c.loop.invariant in
    let item = λ (k : ℕ). minus K (K.times c.args.first (power K c.args.ratio k)) c.args.constant in
    let pushed = c.in_ok-push.ensures.items in
    record {
      len = c.in_ok-push.ensures.len ∙ ap (λ n. n + 1) h.len;
      next_is = h.after_is;
      after_is =
          g.met.F.Field.mul_law _ _ _ c.mul-later.ensures
          ∙ power_two_on K N c.args.first c.args.ratio c.loop.next c.mul-square.result i h.next_is (g.met.F.Field.mul_law _ _ _ c.mul-square.ensures);
      before =
          subst (λ xs. (k : ℕ) → k < i + 1 → get_or xs k K.zero ≡ item k) (sym pushed)
          (pushed_more K.zero (λ k x. x ≡ item k) c.loop.items.items c.sub.result i (omega arith) h.before
          (g.met.F.Field.sub_law _ _ _ c.sub.ensures ∙ ap (λ t. minus K t c.args.constant) h.next_is));
    }
