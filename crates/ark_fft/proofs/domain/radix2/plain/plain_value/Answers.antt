-- One term more.
use Rattle.std.proofs.Common.{refl, ◌<◌, ℕ, length, map, sym, ap, ap₂, ◌∙◌, arith, add-one}
use Rattle.ark_math.specs.Field.{power}
use Rattle.ark_math.specs.Module.{item, sum_below}
use Rattle.ark_math.proofs.Lists.Lists.{read_as}
use Rattle.ark_fft.proofs.Cost.{grows_twice}
use Rattle.ark_fft.proofs.Counts.{below_is_within}
use borrow.Author.Count.{falls}
use Rattle.ark_fft.proofs.domain.radix2.plain.plain_value.Goals as goal

pub loop-i-preserved : goal.loop-i-preserved
loop-i-preserved g c =
    let K = g.F.Field.field in
    let V = g.T.Summand.group in
    let m = g.T.Summand.meaning in
    let i = c.loop-i.i in
    let v = c.loop-i.invariant in
    let items = c.args.items.now in
    let term = λ (k : ℕ). V.scale (power K c.args.point k) (item V (map m items) k) in
    let inside : i < length items = omega arith in
    record {
      counted = grows_twice v.counted c.scale.ensures.counted refl refl refl;
      next_factor =
          g.met.F.Field.mul_law _ _ _ c.mul-factor.ensures
          ∙ (ap (λ t. K.times t c.args.point) v.next_factor
          ∙ (g.met.F.Field.field_laws.times_comm (power K c.args.point i) c.args.point ∙ ap (power K c.args.point) (sym (add-one i))));
      sum =
          g.met.T.Summand.add_assign_meaning _ _ _ c.add_assign.ensures.after
          ∙ (ap₂ V.plus v.sum
          (c.scale.ensures.product ∙ ap₂ V.scale v.next_factor (read_as m V.zero items i c.index-items-i.result inside c.index-items-i.is))
          ∙ ap (λ n. sum_below V n term) (sym (add-one i)));
    }

pub add_assign-requires : goal.add_assign-requires
add_assign-requires g c = g.met.T.Summand.can_add_assign_meaning _ _

pub mul-factor-requires : goal.mul-factor-requires
mul-factor-requires g c = g.met.F.Field.can_mul_law _ _

pub bounds-items-i : goal.bounds-items-i
bounds-items-i g c = c.loop-i-test.true

pub offset_bounds-items-i : goal.offset_bounds-items-i
offset_bounds-items-i g c = below_is_within _ _ c.loop-i-test.true

pub loop-i-smaller : goal.loop-i-smaller
loop-i-smaller g c = falls (length c.args.items.now) c.loop-i.i c.loop-i-test.true
