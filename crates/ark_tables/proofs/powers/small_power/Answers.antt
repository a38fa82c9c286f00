use Rattle.std.proofs.Common.{ap, sym, ◌∙◌}
use Rattle.ark_math.specs.Field.{power}
use Rattle.ark_tables.proofs.PowerLists.{highest_bit, bit_set, bit_unset}
use Rattle.ark_tables.proofs.powers.small_power.Goals.{then-exponent-bit-eq1, else-exponent-bit-eq1}
use Rattle.ark_tables.proofs.powers.small_power.Goals as goal

pub loop-bit-init : goal.loop-bit-init
loop-bit-init g c =
    let e = c.ilog2-bit.ensures in
    sym (ap (power g.F.Field.field c.args.base) (highest_bit c.args.exponent c.ilog2-bit.result e.power_le e.next_power_gt) ∙ g.met.F.Field.field_laws.times_one c.args.base)

pub loop-bit-preserved : goal.loop-bit-preserved
loop-bit-preserved g c =
    let K = g.F.Field.field in
    let L = g.met.F.Field.field_laws in
    let times = g.met.F.Field.mul_law in
    let p = c.loop-bit.power in
    let square = K.times p p in
    let n = c.args.exponent in
    let b = c.loop-bit.bit in
    let product = times _ _ _ c.mul-power.ensures ∙ ap (λ y. K.times y c.if-exponent-bit-eq1.factor) (times _ _ _ c.mul.ensures) in
    elim c.if-exponent-bit-eq1.branch [
      | then-exponent-bit-eq1 w ↦ product ∙ ap (K.times square) w.factor-is ∙ bit_set K L c.args.base p n b c.loop-bit-test.true c.loop-bit.invariant w.if-exponent-bit-eq1.true
      | else-exponent-bit-eq1 w ↦ product ∙ ap (K.times square) (w.factor-is ∙ c.one-one.ensures ∙ g.met.F.Field.one_law) ∙ L.times_one square ∙ bit_unset K L c.args.base p n b c.loop-bit-test.true c.loop-bit.invariant w.if-exponent-bit-eq1.false
    ]
