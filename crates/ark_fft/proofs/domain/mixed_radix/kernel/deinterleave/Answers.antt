use Rattle.std.proofs.Common.{rules, ◌≡◌, ◌≢◌, length, get_or, ◌+◌, ◌*◌, ◌<◌, ap, sym, ◌∙◌, arith, subst, ⊎_elim, get_or-set_same, get_or-set_other, set}
use Rattle.std.proofs.lemmas.Bool.{cases_eq}
use Rattle.std.proofs.lemmas.List.{get_or_read}
use Rattle.ark_fft.proofs.Parts.{place_below, columns_differ, rows_differ}
use borrow.Author.Count.{falls}
use Rattle.ark_fft.proofs.domain.mixed_radix.kernel.deinterleave.Goals as goal

pub offset_bounds-parts-r : goal.offset_bounds-parts-r
offset_bounds-parts-r g c =
    let l = place_below c.args.base c.args.m c.loop-r.r c.loop-i.i c.loop-r-test.true c.loop-i-test.true in
    let b : c.loop-r.r * c.args.m + c.loop-i.i < length c.loop-i.parts = omega arith in
    search rules

pub loop-i-preserved : goal.loop-i-preserved
loop-i-preserved g c =
    let r0 = c.loop-r.r in
    let i0 = c.loop-i.i in
    let m = c.args.m in
    let v = c.loop-i.invariant in
    let l = place_below c.args.base m r0 i0 c.loop-r-test.true c.loop-i-test.true in
    let b : r0 * m + i0 < length c.loop-i.parts = omega arith in
    let k = place_below m c.args.base i0 r0 c.loop-i-test.true c.loop-r-test.true in
    let a : c.args.base * i0 + r0 < length c.args.whole.now = omega arith in
    record {
      rows = λ r i d rl il.
          let ne : r ≢ r0 = omega arith in
          get_or-set_other c.loop-i.parts (r0 * m + i0) (r * m + i) c.index-whole-base.result d (rows_differ m r0 i0 r i c.loop-i-test.true il ne) ∙ v.rows r i d rl il;
      row = λ i d il.
          ⊎_elim
          (λ (e : i ≡ i0).
          ap (λ t. get_or (set c.loop-i.parts (r0 * m + i0) c.index-whole-base.result) (r0 * m + t) d) e
          ∙ (get_or-set_same c.loop-i.parts (r0 * m + i0) c.index-whole-base.result d b
          ∙ (get_or_read c.args.whole.now _ _ a c.index-whole-base.is d
          ∙ ap (λ t. get_or c.args.whole.now (c.args.base * t + r0) d) (sym e))))
          (λ (ne : i ≢ i0).
          let il0 : i < m = omega arith in
          get_or-set_other c.loop-i.parts (r0 * m + i0) (r0 * m + i) c.index-whole-base.result d (columns_differ m r0 i0 r0 i c.loop-i-test.true il0 ne) ∙ v.row i d (omega arith))
          (cases_eq i i0);
    }

pub loop-r-preserved : goal.loop-r-preserved
loop-r-preserved g c = λ r i d rl il.
    let v = c.loop-i.invariant in
    ⊎_elim
    (λ (e : r ≡ c.loop-r.r). subst (λ t. get_or c.loop-i.parts (t * c.args.m + i) d ≡ get_or c.args.whole.now (c.args.base * i + t) d) (sym e) (v.row i d (omega arith)))
    (λ (ne : r ≢ c.loop-r.r). v.rows r i d (omega arith) il)
    (cases_eq r c.loop-r.r)

pub bounds-whole-base : goal.bounds-whole-base
bounds-whole-base g c =
    let k = place_below c.args.m c.args.base c.loop-i.i c.loop-r.r c.loop-i-test.true c.loop-r-test.true in
    omega arith

pub bounds-parts-r : goal.bounds-parts-r
bounds-parts-r g c =
    let l = place_below c.args.base c.args.m c.loop-r.r c.loop-i.i c.loop-r-test.true c.loop-i-test.true in
    omega arith

pub loop-i-smaller : goal.loop-i-smaller
loop-i-smaller g c = falls c.args.m c.loop-i.i c.loop-i-test.true

pub loop-r-smaller : goal.loop-r-smaller
loop-r-smaller g c = falls c.args.base c.loop-r.r c.loop-r-test.true
