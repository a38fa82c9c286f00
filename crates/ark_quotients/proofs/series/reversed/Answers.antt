use Rattle.std.proofs.Common.{◌≡◌, ℕ, ◌+◌, ◌-◌, ◌<◌, ◌∷◌, [], ◌++◌, get_or, sym, subst, arith}
use Rattle.ark_math.specs.Univariate.{of_list}
use Rattle.ark_coeffs.proofs.Pushed.{pushed_more}
use Rattle.ark_quotients.proofs.series.reversed.Goals as goal

pub loop-i-preserved : goal.loop-i-preserved
loop-i-preserved g c =
    let K = g.F.Field.field in
    let i = c.loop-i.i in
    let h = c.loop-i.invariant in
    let item = λ (k : ℕ). of_list K c.args.coeffs.now (c.args.degree - k) in
    record {
      len = omega (arith, c.in_ok-push.ensures.len, h.len);
      same =
          subst (λ xs. (k : ℕ) → k < i + 1 → get_or xs k K.zero ≡ item k) {x = c.loop-i.reversed.items ++ c.coefficient_at.result ∷ []} (sym c.in_ok-push.ensures.items)
          (pushed_more K.zero (λ k x. x ≡ item k) c.loop-i.reversed.items c.coefficient_at.result i (omega arith) h.same c.coefficient_at.ensures);
    }
