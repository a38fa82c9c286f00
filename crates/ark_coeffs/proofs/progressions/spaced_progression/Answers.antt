use Rattle.std.proofs.Common.{ℕ, ◌*◌, ◌<◌, length, refl, sym, ap, ◌∙◌, arith, add-one, length-set}
use Rattle.ark_math.specs.Field.{power}
use Rattle.ark_math.proofs.Algebra.Solve.{◌⊗◌}
use Rattle.ark_math.proofs.Algebra.Ring.{ring3}
use Rattle.ark_coeffs.proofs.Spaced.{spaced-set, multiple_within}
use Rattle.ark_coeffs.proofs.progressions.spaced_progression.Goals as goal

pub loop-k-preserved : goal.loop-k-preserved
loop-k-preserved g c =
    let K = g.F.Field.field in
    let N = g.met.F.Field.field_laws in
    let step = c.args.step in
    let ratio = c.args.ratio in
    let k = c.loop-k.k in
    let items = c.loop-k.items.items in
    let item = λ (k : ℕ). K.times c.args.start (power K ratio k) in
    let h = c.loop-k.invariant in
    let within = multiple_within c.args.size step k c.requires.divides c.loop-k-test.true in
    let inside : k * step < length items = omega (arith, h.len, within, c.requires.apart) in
    record {
      len = length-set items (k * step) c.loop-k.next ∙ h.len;
      next_is =
          g.met.F.Field.mul_assign_law _ _ _ c.mul_assign.ensures.after
          ∙ ap (λ t. K.times t ratio) h.next_is
          ∙ ring3 K N (λ s p f. ((s ⊗ p) ⊗ f, s ⊗ (f ⊗ p))) refl c.args.start (power K ratio k) ratio
          ∙ ap item (sym (add-one k));
      spaced = spaced-set K step item k items c.loop-k.next c.requires.apart inside h.next_is h.spaced;
    }
