use Rattle.std.proofs.Common.{◌≡◌, ◌/◌, ap, ◌∙◌}
use Rattle.ark_math.specs.Field.{power}
use Rattle.ark_math.proofs.Algebra.Powers.{power_even, power_odd}
use Rattle.ark_traits.proofs.field.Field.pow.Goals.{then-left-eq1, else-left-eq1}
use Rattle.ark_traits.proofs.field.Field.pow.Goals as goal

pub bits-preserved : goal.bits-preserved
bits-preserved g c =
    let K = g.Self.Field.field in
    let laws = g.met.Self.Field.field_laws in
    let times = g.met.Self.Field.mul_law in
    let r = c.bits.result in
    let s = c.bits.square in
    let n = c.bits.left in
    let half = power K (K.times s s) (n / 2) in
    let step : K.times c.if-left-eq1.result half ≡ K.times r (power K s n) =
    elim c.if-left-eq1.branch [
      | then-left-eq1 w ↦ ap (λ y. K.times y half) (w.result-is ∙ times _ _ _ w.mul-result.ensures) ∙ power_odd K laws r s n w.if-left-eq1.true
      | else-left-eq1 w ↦ ap (λ y. K.times y half) w.result-is ∙ ap (K.times r) (power_even K laws s n w.if-left-eq1.false)
    ] in
    ap (λ y. K.times c.if-left-eq1.result (power K y (n / 2))) (times _ _ _ c.mul-square.ensures) ∙ step ∙ c.bits.invariant
