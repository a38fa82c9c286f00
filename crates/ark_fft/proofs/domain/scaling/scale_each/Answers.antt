use Rattle.std.proofs.Common.{refl, ◌<◌, ℕ, map, length, ap, sym, subst, ◌∙◌}
use Rattle.ark_math.specs.Module.{item}
use Rattle.ark_math.proofs.Lists.Lists.{read_at, written_more, written_rest}
use Rattle.ark_fft.proofs.Cost.{none_grown, grows_twice}
use Rattle.ark_fft.proofs.Counts.{itself, ended, none_yet}
use borrow.Author.Rules.{scaled_Fits}
use borrow.Author.Count.{falls}
use Rattle.ark_fft.proofs.domain.scaling.scale_each.Goals as goal

pub loop-i-preserved : goal.loop-i-preserved
loop-i-preserved g c =
    let V = g.T.Summand.group in
    let m = g.T.Summand.meaning in
    let i = c.loop-i.i in
    let v = c.loop-i.invariant in
    let in_xs : i < length c.loop-i.xs = subst (λ k. i < k) (sym c.loop-i.auto.xs) c.loop-i-test.true in
    let here = itself i in
    let old = λ (k : ℕ). item V (map m c.args.xs.now) k in
    let e = c.scale.ensures.product in
    record {
      counted = grows_twice v.counted c.scale.ensures.counted refl refl refl;
      before = written_more m V.zero (λ k. V.scale c.args.factor (old k)) c.loop-i.xs i c.scale.new.value in_xs v.before
          (e ∙ ap (V.scale c.args.factor) (read_at m V.zero c.loop-i.xs i _ in_xs ∙ v.rest i here));
      rest = written_rest m V.zero old c.loop-i.xs i c.scale.new.value v.rest;
    }

pub returns-clause-items : goal.returns-clause-items
returns-clause-items g c = λ i l. c.loop-i.invariant.before i (subst (λ k. i < k) (sym (ended c.loop-i.i (length c.args.xs.now) c.loop-i.auto.i-end c.loop-i-test.false)) l)

pub loop-i-init : goal.loop-i-init
loop-i-init g c = record {
  counted = none_grown _;
  before = λ i l. none_yet i l;
  rest = λ i l. refl;
}

pub offset_bounds-xs-i : goal.offset_bounds-xs-i
offset_bounds-xs-i g c = let inside : c.loop-i.i < length c.args.xs.now = c.loop-i-test.true in search scaled_Fits

pub bounds-xs-i : goal.bounds-xs-i
bounds-xs-i g c = subst (λ k. c.loop-i.i < k) (sym c.loop-i.auto.xs) c.loop-i-test.true

pub loop-i-smaller : goal.loop-i-smaller
loop-i-smaller g c = falls (length c.args.xs.now) c.loop-i.i c.loop-i-test.true
