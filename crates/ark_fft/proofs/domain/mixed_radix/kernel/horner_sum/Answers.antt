use Rattle.std.proofs.Common.{◌≡◌, map, length, ◌+◌, ◌-◌, ◌*◌, ◌<◌, ap, sym, ◌∙◌, arith}
use Rattle.ark_math.specs.Field.{power}
use Rattle.ark_math.specs.Module.{item, sum_below}
use Rattle.ark_math.proofs.Lists.Lists.{read_as}
use Rattle.ark_fft.proofs.Parts.{place_before, sum_before, sum_last, sum_all}
use Rattle.ark_fft.proofs.Cost.{none_grown}
use Rattle.ark_fft.proofs.Counts.{one_round_more}
use Rattle.ark_fft.proofs.domain.mixed_radix.kernel.horner_sum.Goals as goal

pub loop-r-init : goal.loop-r-init
loop-r-init g c =
    let V = g.T.Summand.group in
    let m = g.T.Summand.meaning in
    let xs = c.args.parts.now in
    let i = c.args.last - (c.args.level.now.base - 1) * c.args.level.now.part_len in
    let place : c.args.last ≡ (c.args.level.now.base - 1) * c.args.level.now.part_len + i = omega arith in
    record {
      from = omega arith;
      place = place;
      within = omega arith;
      counted = none_grown c.args.work.now;
      sum =
          read_as m V.zero xs c.args.last c.index-parts-last.result c.requires.inside c.index-parts-last.is
          ∙ (ap (item V (map m xs)) place ∙ sum_last g.met.T.Summand.module_laws c.args.factor c.args.level.now.base c.args.level.now.part_len i (item V (map m xs)) c.requires.base_not_zero);
    }

pub overflow_sub-place : goal.overflow_sub-place
overflow_sub-place g c =
    let e = place_before c.args.level.now.base c.args.level.now.part_len c.loop-r._r (c.args.last - (c.args.level.now.base - 1) * c.args.level.now.part_len) c.loop-r.place c.loop-r-test.true c.loop-r.invariant.place in
    omega arith

pub loop-r-preserved : goal.loop-r-preserved
loop-r-preserved g c =
    let K = g.F.Field.field in
    let V = g.T.Summand.group in
    let m = g.T.Summand.meaning in
    let q = c.args.level.now.base in
    let r = c.loop-r._r in
    let t = c.args.factor in
    let v = c.loop-r.invariant in
    let xs = c.args.parts.now in
    let i = c.args.last - (q - 1) * c.args.level.now.part_len in
    let at = c.loop-r.place - c.args.level.now.part_len in
    let x = c.index-parts-place.result in
    let before = place_before q c.args.level.now.part_len r i c.loop-r.place c.loop-r-test.true v.place in
    let place : at ≡ (q - (r + 1)) * c.args.level.now.part_len + i = omega arith in
    record {
      from = omega arith;
      place = place;
      within = omega arith;
      counted = one_round_more c.loop-r._r v.from v.counted c.scale.ensures.counted;
      sum =
          let b : at < length xs = omega arith in
          let value : m x ≡ item V (map m xs) ((q - (r + 1)) * c.args.level.now.part_len + i) = read_as m V.zero xs at x b c.index-parts-place.is ∙ ap (item V (map m xs)) place in
          let times = c.scale.ensures.product in
          let plus = g.met.T.Summand.add_assign_meaning _ _ _ c.add_assign.ensures.after in
          plus
          ∙ (ap (λ s. V.plus s (m x)) (times ∙ ap (V.scale t) v.sum)
          ∙ (ap (V.plus (V.scale t (sum_below V r (λ k. V.scale (power K t k) (item V (map m xs) ((q - r + k) * c.args.level.now.part_len + i)))))) value
          ∙ sym (sum_before g.met.T.Summand.module_laws t q c.args.level.now.part_len i r (item V (map m xs)) c.loop-r-test.true)));
    }

pub returns-clause-sum : goal.returns-clause-sum
returns-clause-sum g c = λ i e.
    let K = g.F.Field.field in
    let V = g.T.Summand.group in
    let m = g.T.Summand.meaning in
    let end : c.loop-r._r ≡ c.args.level.now.base = omega arith in
    let same : c.args.last - (c.args.level.now.base - 1) * c.args.level.now.part_len ≡ i = omega arith in
    c.loop-r.invariant.sum
    ∙ (sum_all K V c.args.factor c.args.level.now.base c.args.level.now.part_len (c.args.last - (c.args.level.now.base - 1) * c.args.level.now.part_len) c.loop-r._r (item V (map m c.args.parts.now)) end
    ∙ ap (λ u. sum_below V c.args.level.now.base (λ k. V.scale (power K c.args.factor k) (item V (map m c.args.parts.now) (k * c.args.level.now.part_len + u)))) same)
