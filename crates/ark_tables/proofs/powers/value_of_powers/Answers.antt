use Rattle.std.proofs.Common.{length, arith}
use Rattle.ark_math_variables.specs.Term.{term_value}
use Rattle.ark_tables.proofs.PowerLists.{behind_within, value_first, value_next}
use Rattle.ark_tables.proofs.powers.value_of_powers.Goals as goal

pub loop-pair-init : goal.loop-pair-init
loop-pair-init g c =
    value_first g.F.Field.field g.met.F.Field.field_laws c.in-Some.others.now c.in-Some.first.now c.args.pairs.now c.args.point.now c.index-point-first.result c.small_power-value.result c.in-Some.ensures.cases.0 c.requires c.index-point-first.is c.small_power-value.ensures

pub offset_bounds-point-pair : goal.offset_bounds-point-pair
offset_bounds-point-pair g c =
    let inside = behind_within (length c.args.point.now) c.loop-pair.pair-index c.in-Some.first.now c.in-Some.others.now c.args.pairs.now c.in-Some.ensures.cases.0 c.loop-pair-test.true c.requires in
    omega (arith, inside)

pub bounds-point-pair : goal.bounds-point-pair
bounds-point-pair g c = behind_within (length c.args.point.now) c.loop-pair.pair-index c.in-Some.first.now c.in-Some.others.now c.args.pairs.now c.in-Some.ensures.cases.0 c.loop-pair-test.true c.requires

pub loop-pair-preserved : goal.loop-pair-preserved
loop-pair-preserved g c =
    let others = c.in-Some.others.now in
    let i = c.loop-pair.pair-index in
    value_next g.F.Field.field g.met.F.Field.field_laws others c.args.point.now i c.loop-pair.value c.index-point-pair.result c.small_power.result c.mul-value.result (term_value g.F.Field.field c.args.pairs.now c.args.point.now) c.loop-pair-test.true c.loop-pair.invariant
    (behind_within (length c.args.point.now) i c.in-Some.first.now others c.args.pairs.now c.in-Some.ensures.cases.0 c.loop-pair-test.true c.requires)
    c.index-point-pair.is c.small_power.ensures (g.met.F.Field.mul_law _ _ _ c.mul-value.ensures)
