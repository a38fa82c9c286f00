use Rattle.std.proofs.Common.{◌≡◌, ◌+◌, map, ◌≤◌, ◌<◌, ℕ}
use Rattle.ark_math.specs.Field.{power}
use Rattle.ark_math.specs.Cost.{GrowsBy, counts}
use Rattle.ark_math.specs.Module.{item}
use Rattle.ark_fft.proofs.domain.scaling.scale_by_powers.Given as goal

abbrev pub invariant-loop-i : goal.invariant-loop-i
invariant-loop-i g l =
    let V = g.T.Summand.group in
    let m = g.T.Summand.meaning in
    record {
      counted : GrowsBy (counts l.i 0 0) l.fn.work l.work;
      next_scale : l.next ≡ g.F.Field.field.times l.fn.start (power g.F.Field.field l.fn.factor l.i);
      after_scale : l.after ≡ g.F.Field.field.times l.fn.start (power g.F.Field.field l.fn.factor (l.i + 1));
      before : (i : ℕ) → i < l.i → item V (map m l.xs) i ≡ V.scale (g.F.Field.field.times l.fn.start (power g.F.Field.field l.fn.factor i)) (item V (map m l.initial.xs) i);
      rest : (i : ℕ) → l.i ≤ i → item V (map m l.xs) i ≡ item V (map m l.initial.xs) i;
    }
