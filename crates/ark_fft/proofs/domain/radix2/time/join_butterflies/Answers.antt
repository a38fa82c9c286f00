use Rattle.std.proofs.Common.{refl, ◌≡◌, ◌<◌, ℕ, map, length, get_or, ap₂, sym, subst, ◌∙◌}
use Rattle.std.proofs.lemmas.List.{get_or_read}
use Rattle.ark_math.specs.Module.{item}
use Rattle.ark_fft.proofs.Cost.{none_grown, grows_twice}
use Rattle.ark_fft.proofs.Counts.{ended}
use Rattle.ark_fft.proofs.Butterflies.{none_crossed, one_crossed}
use Rattle.ark_fft.proofs.domain.radix2.time.join_butterflies.Goals as goal

pub loop-i-preserved : goal.loop-i-preserved
loop-i-preserved g c =
    let V = g.T.Summand.group in
    let m = g.T.Summand.meaning in
    let i = c.loop-i.i in
    let v = c.loop-i.invariant in
    let in_lo : i < length c.loop-i.lo = subst (λ k. i < k) (sym c.loop-i.auto.lo) c.loop-i-test.true in
    let in_hi : i < length c.loop-i.hi = subst (λ k. i < k) (sym (c.loop-i.auto.hi ∙ sym c.requires.same)) c.loop-i-test.true in
    let in_roots : i < length c.args.twiddles.now = subst (λ k. i < k) c.requires.enough c.loop-i-test.true in
    let root : c.index-twiddles-i.result ≡ get_or c.args.twiddles.now i g.F.Field.field.zero = get_or_read c.args.twiddles.now _ _ in_roots c.index-twiddles-i.is g.F.Field.field.zero in
    let lo0 = λ (k : ℕ). item V (map m c.args.lo.now) k in
    let hi0 = λ (k : ℕ). item V (map m c.args.hi.now) k in
    record {
      counted = grows_twice v.counted c.join.ensures.counted refl refl refl;
      crossed = one_crossed m V.zero (λ (k : ℕ). V.plus (lo0 k) (V.scale (get_or c.args.twiddles.now k g.F.Field.field.zero) (hi0 k))) (λ (k : ℕ). V.plus (lo0 k) (V.negated (V.scale (get_or c.args.twiddles.now k g.F.Field.field.zero) (hi0 k)))) lo0 hi0 c.loop-i.lo c.loop-i.hi i c.index-lo-i.result c.index-hi-i.result c.join.new.lo c.join.new.hi in_lo in_hi v.crossed
          (λ at_lo at_hi.
          (c.join.ensures.sum ∙ ap₂ V.plus at_lo (ap₂ V.scale root at_hi), c.join.ensures.difference ∙ ap₂ (λ x y. V.plus x (V.negated y)) at_lo (ap₂ V.scale root at_hi)));
    }

pub returns-clause-sums : goal.returns-clause-sums
returns-clause-sums g c = λ i l. c.loop-i.invariant.crossed.done_lo i (subst (λ k. i < k) (sym (ended c.loop-i.i (length c.args.lo.now) c.loop-i.auto.i-end c.loop-i-test.false)) l)

pub returns-clause-differences : goal.returns-clause-differences
returns-clause-differences g c = λ i l. c.loop-i.invariant.crossed.done_hi i (subst (λ k. i < k) (sym (ended c.loop-i.i (length c.args.lo.now) c.loop-i.auto.i-end c.loop-i-test.false)) l)

pub loop-i-init : goal.loop-i-init
loop-i-init g c = record { counted = none_grown _; crossed = none_crossed g.T.Summand.meaning g.T.Summand.group.zero _ _ c.args.lo.now c.args.hi.now }
