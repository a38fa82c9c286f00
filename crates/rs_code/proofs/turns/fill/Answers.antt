use Rattle.std.proofs.Common.{◌≡◌, ℕ, true, false, ◌+◌, ◌<◌, get_or, length, refl, arith}
use Rattle.std.proofs.lemmas.List.{get_or_default}
use Rattle.rs_code.proofs.turns.TurnFactors.{made_more, made_parts}
use Rattle.rs_code.proofs.turns.fill.Goals as goal

pub at-place-requires : goal.at-place-requires
at-place-requires g c = record { len = (length c.args.fours.now, c.requires.values, c.requires.fours c.loop-j.j c.loop-j-test.true) }

pub loop-j-preserved : goal.loop-j-preserved
loop-j-preserved g c =
    let v = c.loop-j.invariant in
    let values = c.args.values.now in
    let fours = c.args.fours.now in
    let marks = c.args.erased.now in
    let j = c.loop-j.j in
    let k = get_or fours j 0 in
    let q = length fours in
    let mark = λ (i : ℕ) (l : i < length marks). get_or_default marks i false true l in
    let more = made_more g.F.Field.field values fours marks in
    let l = c.loop-j-test.true in
    let p = c.split_at_mut-first in
    let r = c.split_at_mut-second in
    let u = c.split_at_mut-third in
    let first = c.at-place.ensures in
    let second = c.turned-place.ensures values k 0 first in
    let third = c.turned-place-in-loop-j.ensures values k 1 second in
    let fourth = c.turned-place-in-loop-j-2.ensures values k 2 third in
    record {
      first = more 0 j c.loop-j.first c.factor.result j (get_or marks j false)
          (omega (arith, l, p.ensures.front_len, c.loop-j.auto.first)) v.first (omega arith) (mark j (omega (arith, l, c.requires.erased)))
          (c.factor.ensures values k 0 first);
      second = more 1 j c.loop-j.second c.factor-in-loop-j.result (j + q) (get_or marks (j + q) false)
          (omega (arith, l, r.ensures.front_len, c.loop-j.auto.second)) v.second (omega arith) (mark (j + q) (omega (arith, l, c.requires.erased)))
          (c.factor-in-loop-j.ensures values k 1 second);
      third = more 2 j c.loop-j.third c.factor-in-loop-j-2.result (j + q + q) (get_or marks (j + q + q) false)
          (omega (arith, l, u.ensures.front_len, c.loop-j.auto.third)) v.third (omega arith) (mark (j + q + q) (omega (arith, l, c.requires.erased)))
          (c.factor-in-loop-j-2.ensures values k 2 third);
      fourth = more 3 j c.loop-j.fourth c.factor-in-loop-j-3.result (j + q + q + q) (get_or marks (j + q + q + q) false)
          (omega (arith, l, u.ensures.back_len, r.ensures.back_len, p.ensures.back_len, c.requires.factors, c.loop-j.auto.fourth)) v.fourth (omega arith) (mark (j + q + q + q) (omega (arith, l, c.requires.erased)))
          (c.factor-in-loop-j-3.ensures values k 3 fourth);
    }

pub returns-clause-made : goal.returns-clause-made
returns-clause-made g c =
    let q = length c.args.fours.now in
    let v = c.loop-j.invariant in
    let end : c.loop-j.j ≡ q = omega (arith, c.loop-j-test.false, c.loop-j.auto.j-end) in
    made_parts g.F.Field.field c.args.values.now c.args.fours.now c.args.erased.now q c.loop-j.j refl end
    c.loop-j.first c.loop-j.second c.loop-j.third c.loop-j.fourth
    (omega (arith, c.loop-j.auto.first, c.split_at_mut-first.ensures.front_len))
    (omega (arith, c.loop-j.auto.second, c.split_at_mut-second.ensures.front_len))
    (omega (arith, c.loop-j.auto.third, c.split_at_mut-third.ensures.front_len))
    v.first v.second v.third v.fourth
