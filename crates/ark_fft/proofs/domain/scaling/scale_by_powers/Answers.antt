use Rattle.std.proofs.Common.{◌≡◌, ◌<◌, ℕ, map, length, get_or, ◌+◌, suc, sym, subst, ap, ap₂, ◌∙◌, refl, add-one}
use Rattle.ark_math.specs.Cost.{GrowsBy, counts}
use Rattle.ark_math.specs.Field.{power}
use Rattle.ark_math.specs.Module.{item}
use Rattle.ark_math.proofs.Lists.Lists.{read_at, written_more, written_rest}
use Rattle.ark_math.proofs.Algebra.Solve.{◌⊗◌}
use Rattle.ark_math.proofs.Algebra.Ring.{ring3}
use Rattle.ark_fft.proofs.Cost.{none_grown, grows_twice}
use Rattle.ark_fft.proofs.Counts.{ended, none_yet, itself}
use Rattle.ark_fft.proofs.Radix2.{scaled_by_one}
use Rattle.ark_fft.proofs.domain.scaling.scale_by_powers.Goals as goal

pub loop-i-init : goal.loop-i-init
loop-i-init g c =
    let K = g.F.Field.field in
    let N = g.met.F.Field.field_laws in
    let e : 1 ≡ 0 + 1 = refl in
    let q : c.mul-after.result ≡ K.times c.args.start c.args.factor = g.met.F.Field.mul_law _ _ _ c.mul-after.ensures in
    record {
      counted = none_grown c.args.work.now;
      next_scale = sym (N.times_one c.args.start);
      after_scale = q ∙ (ap (K.times c.args.start) (sym (N.times_one c.args.factor)) ∙ ap (λ n. K.times c.args.start (power K c.args.factor n)) e);
      before = λ i l. none_yet i l;
      rest = λ i l. refl;
    }

pub loop-i-preserved : goal.loop-i-preserved
loop-i-preserved g c =
    let K = g.F.Field.field in
    let V = g.T.Summand.group in
    let m = g.T.Summand.meaning in
    let i = c.loop-i.i in
    let v = c.loop-i.invariant in
    let in_xs : i < length c.loop-i.xs = subst (λ k. i < k) (sym c.loop-i.auto.xs) c.loop-i-test.true in
    let here = itself i in
    let old = λ (k : ℕ). item V (map m c.args.xs.now) k in
    let scales = λ (k : ℕ). K.times c.args.start (power K c.args.factor k) in
    let e = c.scale.ensures.product in
    record {
      counted = grows_twice v.counted c.scale.ensures.counted refl refl refl;
      next_scale = v.after_scale;
      after_scale =
          let q : c.mul-later.result ≡ K.times c.loop-i.next c.mul-square.result = g.met.F.Field.mul_law _ _ _ c.mul-later.ensures in
          let square : c.mul-square.result ≡ K.times c.args.factor c.args.factor = g.met.F.Field.mul_law _ _ _ c.mul-square.ensures in
          q
          ∙ (ap₂ K.times v.next_scale square
          ∙ (ring3 K g.met.F.Field.field_laws (λ s p f. ((s ⊗ p) ⊗ (f ⊗ f), s ⊗ (f ⊗ (f ⊗ p)))) refl c.args.start (power K c.args.factor i) c.args.factor
          ∙ ap scales (sym (add-one (i + 1) ∙ ap suc (add-one i)))));
      before = written_more m V.zero (λ k. V.scale (scales k) (old k)) c.loop-i.xs i c.scale.new.value in_xs v.before
          (e ∙ (ap (λ t. V.scale t (m (get_or c.loop-i.xs i c.index-xs-i.result))) v.next_scale ∙ ap (V.scale (scales i)) (read_at m V.zero c.loop-i.xs i c.index-xs-i.result in_xs ∙ v.rest i here)));
      rest = written_rest m V.zero old c.loop-i.xs i c.scale.new.value v.rest;
    }

pub returns-then-is_one-clause-items : goal.returns-then-is_one-clause-items
returns-then-is_one-clause-items g c = λ i l.
    let one : c.args.factor ≡ g.F.Field.field.one = (g.met.F.Field.equality_law c.args.factor g.F.One.one).0 (sym c.is_one.ensures ∙ c.if-is_one.true) ∙ g.met.F.Field.one_law in
    c.scale_each.ensures.items i l ∙ scaled_by_one g.T.Summand.group g.met.F.Field.field_laws c.args.factor c.args.start i _ one

pub returns-then-is_one-clause-counted : goal.returns-then-is_one-clause-counted
returns-then-is_one-clause-counted g c = c.scale_each.ensures.counted

pub returns-after-loop-i-clause-items : goal.returns-after-loop-i-clause-items
returns-after-loop-i-clause-items g c = λ i l. c.loop-i.invariant.before i (subst (λ k. i < k) (sym (ended c.loop-i.i (length c.args.xs.now) c.loop-i.auto.i-end c.loop-i-test.false)) l)

pub returns-after-loop-i-clause-counted : goal.returns-after-loop-i-clause-counted
returns-after-loop-i-clause-counted g c =
    subst (λ k. GrowsBy (counts k 0 0) c.args.work.now c.loop-i.work) (ended c.loop-i.i (length c.args.xs.now) c.loop-i.auto.i-end c.loop-i-test.false) c.loop-i.invariant.counted

pub mul-square-requires : goal.mul-square-requires
mul-square-requires g c = g.met.F.Field.can_mul_law _ _

pub mul-after-requires : goal.mul-after-requires
mul-after-requires g c = g.met.F.Field.can_mul_law _ _

pub mul-later-requires : goal.mul-later-requires
mul-later-requires g c = g.met.F.Field.can_mul_law _ _
