use Rattle.std.proofs.Common.{rules, refl, ◌≡◌, ◌≢◌, ℕ, set, map, length, get_or, ◌+◌, ◌-◌, ◌*◌, ◌≤◌, ◌<◌, ap, sym, ◌∙◌, arith, subst, ⊎_elim}
use Rattle.std.proofs.lemmas.Bool.{cases_eq}
use Rattle.std.proofs.lemmas.List.{get_or_read}
use Rattle.ark_math.specs.Module.{item}
use Rattle.ark_math.proofs.Lists.Lists.{read_at, written_same, written_other}
use Rattle.ark_fft.proofs.Parts.{place_below, twist_below, next_place, next_twist, columns_differ, rows_differ}
use Rattle.ark_fft.proofs.Cost.{none_grown}
use Rattle.ark_fft.proofs.Counts.{one_round_more}
use Rattle.ark_fft.proofs.domain.mixed_radix.kernel.apply_twiddles.Goals as goal

pub overflow_mul-turn : goal.overflow_mul-turn
overflow_mul-turn g c =
    let l = twist_below c.args.level.now.base c.args.level.now.part_len c.args.level.now.stride 1 c.args.i c.requires.level.above_one c.requires.place c.requires.level.stride_not_zero in
    omega arith

pub loop-r-init : goal.loop-r-init
loop-r-init g c =
    let V = g.T.Summand.group in
    let table = c.args.level.now.roots.now in
    record {
      from = omega arith;
      place = omega arith;
      at = omega arith;
      counted = none_grown c.args.work.now;
      done = λ first r l.
          let item_of = item V (map g.T.Summand.meaning c.args.parts.now) (r * c.args.level.now.part_len + c.args.i) in
          let none : r ≡ 0 = omega arith in
          let at : r * c.args.i * c.args.level.now.stride ≡ 0 = omega (arith, ap (λ q. q * c.args.i * c.args.level.now.stride) none) in
          sym (ap (λ k. V.scale (get_or table k g.F.Field.field.zero) item_of) at ∙ ap (λ t. V.scale t item_of) first ∙ g.met.T.Summand.module_laws.one_scale item_of);
      rest = λ r l. refl;
      others = λ r k l ne. refl;
    }

pub overflow_add-place : goal.overflow_add-place
overflow_add-place g c =
    let l = place_below c.args.level.now.base c.args.level.now.part_len c.loop-r._r c.args.i c.loop-r-test.true c.requires.place in
    let e = next_place c.args.level.now.part_len c.loop-r._r c.args.i c.loop-r.place c.loop-r.invariant.from c.loop-r.invariant.place in
    omega arith

pub offset_bounds-parts-place : goal.offset_bounds-parts-place
offset_bounds-parts-place g c =
    let l = place_below c.args.level.now.base c.args.level.now.part_len c.loop-r._r c.args.i c.loop-r-test.true c.requires.place in
    let e = next_place c.args.level.now.part_len c.loop-r._r c.args.i c.loop-r.place c.loop-r.invariant.from c.loop-r.invariant.place in
    let b : c.loop-r.place + c.args.level.now.part_len < length c.loop-r.parts = omega arith in
    search rules

pub overflow_add-at : goal.overflow_add-at
overflow_add-at g c =
    let l = twist_below c.args.level.now.base c.args.level.now.part_len c.args.level.now.stride c.loop-r._r c.args.i c.loop-r-test.true c.requires.place c.requires.level.stride_not_zero in
    let e = next_twist c.loop-r._r c.args.i c.args.level.now.stride c.loop-r.at c.loop-r.invariant.from c.loop-r.invariant.at in
    omega arith

pub offset_bounds-roots-at : goal.offset_bounds-roots-at
offset_bounds-roots-at g c =
    let l = twist_below c.args.level.now.base c.args.level.now.part_len c.args.level.now.stride c.loop-r._r c.args.i c.loop-r-test.true c.requires.place c.requires.level.stride_not_zero in
    let e = next_twist c.loop-r._r c.args.i c.args.level.now.stride c.loop-r.at c.loop-r.invariant.from c.loop-r.invariant.at in
    let b : c.loop-r.at + c.args.i * c.args.level.now.stride < length c.args.level.now.roots.now = omega arith in
    search rules

pub bounds-roots-at : goal.bounds-roots-at
bounds-roots-at g c =
    let l = twist_below c.args.level.now.base c.args.level.now.part_len c.args.level.now.stride c.loop-r._r c.args.i c.loop-r-test.true c.requires.place c.requires.level.stride_not_zero in
    let e = next_twist c.loop-r._r c.args.i c.args.level.now.stride c.loop-r.at c.loop-r.invariant.from c.loop-r.invariant.at in
    omega arith

pub bounds-parts-place : goal.bounds-parts-place
bounds-parts-place g c =
    let l = place_below c.args.level.now.base c.args.level.now.part_len c.loop-r._r c.args.i c.loop-r-test.true c.requires.place in
    let e = next_place c.args.level.now.part_len c.loop-r._r c.args.i c.loop-r.place c.loop-r.invariant.from c.loop-r.invariant.place in
    omega arith

pub loop-r-preserved : goal.loop-r-preserved
loop-r-preserved g c =
    let K = g.F.Field.field in
    let V = g.T.Summand.group in
    let m = g.T.Summand.meaning in
    let r0 = c.loop-r._r in
    let i0 = c.args.i in
    let s = c.args.level.now.stride in
    let xs = c.loop-r.parts in
    let table = c.args.level.now.roots.now in
    let v = c.loop-r.invariant in
    let same : r0 ≡ r0 + 1 - 1 = omega arith in
    let at = c.loop-r.place + c.args.level.now.part_len in
    let place : at ≡ r0 * c.args.level.now.part_len + i0 = next_place c.args.level.now.part_len r0 i0 c.loop-r.place v.from v.place in
    let apply_twiddles : c.loop-r.at + i0 * s ≡ r0 * i0 * s = next_twist r0 i0 s c.loop-r.at v.from v.at in
    let l = place_below c.args.level.now.base c.args.level.now.part_len r0 i0 c.loop-r-test.true c.requires.place in
    let b : at < length xs = omega arith in
    let k = twist_below c.args.level.now.base c.args.level.now.part_len s r0 i0 c.loop-r-test.true c.requires.place c.requires.level.stride_not_zero in
    let a : c.loop-r.at + i0 * s < length table = omega arith in
    let root : c.index-roots-at.result ≡ get_or table (r0 * i0 * s) K.zero = get_or_read table _ _ a c.index-roots-at.is K.zero ∙ ap (λ t. get_or table t K.zero) apply_twiddles in
    let times = c.scale.ensures.product in
    let old = λ (k : ℕ). item V (map m c.args.parts.now) k in
    let new = c.scale.new.value in
    let here : r0 ≤ r0 = omega arith in
    let value : m new ≡ V.scale (get_or table (r0 * i0 * s) K.zero) (old (r0 * c.args.level.now.part_len + i0)) =
    times
    ∙ (ap (λ t. V.scale t (m (get_or xs at c.index-parts-place.result))) root
    ∙ ap (V.scale (get_or table (r0 * i0 * s) K.zero)) (read_at m V.zero xs at c.index-parts-place.result b ∙ (ap (item V (map m xs)) place ∙ v.rest r0 here))) in
    record {
      from = omega arith;
      place = place ∙ ap (λ t. t * c.args.level.now.part_len + i0) same;
      at = apply_twiddles ∙ ap (λ t. t * i0 * s) same;
      counted = one_round_more c.loop-r._r v.from v.counted c.scale.ensures.counted;
      done = λ one r rl.
          ⊎_elim
          (λ (e : r ≡ r0).
          subst (λ t. item V (map m (set xs at new)) (t * c.args.level.now.part_len + i0) ≡ V.scale (get_or table (t * i0 * s) K.zero) (old (t * c.args.level.now.part_len + i0))) (sym e)
          (ap (item V (map m (set xs at new))) (sym place) ∙ (written_same m V.zero xs at new b ∙ value)))
          (λ (ne : r ≢ r0). written_other m V.zero xs at (r * c.args.level.now.part_len + i0) new (λ w. rows_differ c.args.level.now.part_len r0 i0 r i0 c.requires.place c.requires.place ne (w ∙ place)) ∙ v.done one r (omega arith))
          (cases_eq r r0);
      rest = λ r rl.
          let ne : r ≢ r0 = omega arith in
          written_other m V.zero xs at (r * c.args.level.now.part_len + i0) new (λ w. rows_differ c.args.level.now.part_len r0 i0 r i0 c.requires.place c.requires.place ne (w ∙ place)) ∙ v.rest r (omega arith);
      others = λ r k kl ne.
          written_other m V.zero xs at (r * c.args.level.now.part_len + k) new (λ w. columns_differ c.args.level.now.part_len r0 i0 r k c.requires.place kl ne (w ∙ place)) ∙ v.others r k kl ne;
    }
