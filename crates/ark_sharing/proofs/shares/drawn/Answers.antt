use Rattle.std.proofs.Common.{◌∷◌, [], length, length-append, ap, sym, subst, arith}
use Rattle.ark_math.specs.Draws.{AreDrawn}
use Rattle.ark_math.proofs.Outcomes.Draws.{AreDrawn-push}
use Rattle.ark_sharing.proofs.shares.drawn.Goals as goal

pub loop-preserved : goal.loop-preserved
loop-preserved g c =
    let draws = g.F.Field.draws in
    let start = g.R.Rng.stream c.args.rng.now in
    let items = c.in_ok-push.ensures.items in
    record {
      count = omega (arith, ap length items, length-append c.loop.coeffs.items (c.rand.result ∷ []), c.loop.invariant.count);
      drawn =
          subst (λ values. AreDrawn draws start values (g.R.Rng.stream c.rand.new.rng)) (sym items)
          (AreDrawn-push draws start c.loop.coeffs.items (g.R.Rng.stream c.loop.rng) c.rand.result (g.R.Rng.stream c.rand.new.rng) c.loop.invariant.drawn c.rand.ensures.drawn);
    }
