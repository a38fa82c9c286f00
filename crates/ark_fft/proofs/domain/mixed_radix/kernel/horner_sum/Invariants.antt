use Rattle.std.proofs.Common.{◌≡◌, map, ◌+◌, ◌-◌, ◌*◌, ◌≤◌}
use Rattle.ark_math.specs.Field.{power}
use Rattle.ark_math.specs.Cost.{GrowsBy, counts}
use Rattle.ark_math.specs.Module.{item, sum_below}
use Rattle.ark_fft.proofs.domain.mixed_radix.kernel.horner_sum.Given as goal

abbrev pub invariant-loop-r : goal.invariant-loop-r
invariant-loop-r g l =
    let V = g.T.Summand.group in
    let m = g.T.Summand.meaning in
    record {
      from : 1 ≤ l._r;
      place : l.place ≡ (l.level.base - l._r) * l.level.part_len + (l.last - (l.level.base - 1) * l.level.part_len);
      within : l.place ≤ l.last;
      counted : GrowsBy (counts (l._r - 1) 0 0) l.fn.work l.work;
      sum : m l.sum ≡ sum_below V l._r (λ k. V.scale (power g.F.Field.field l.factor k) (item V (map m l.parts) ((l.level.base - l._r + k) * l.level.part_len + (l.last - (l.level.base - 1) * l.level.part_len))));
    }
