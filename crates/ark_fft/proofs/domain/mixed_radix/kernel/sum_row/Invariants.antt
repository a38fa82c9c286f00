use Rattle.std.proofs.Common.{◌≡◌, ◌≢◌, ℕ, map, get_or, ◌+◌, ◌-◌, ◌*◌, ◌<◌}
use Rattle.ark_math.specs.Field.{power}
use Rattle.ark_math.specs.Cost.{GrowsBy, counts}
use Rattle.ark_math.specs.Module.{item, sum_below}
use Rattle.ark_fft.proofs.domain.mixed_radix.kernel.sum_row.Given as goal

abbrev pub invariant-loop-i : goal.invariant-loop-i
invariant-loop-i g l =
    let V = g.T.Summand.group in
    let m = g.T.Summand.meaning in
    record {
      counted : GrowsBy (counts (l.i * (l.level.base - 1)) 0 0) l.fn.work l.work;
      done : (i : ℕ) → i < l.i → item V (map m l.whole) (l.j * l.level.part_len + i) ≡ sum_below V l.level.base (λ r. V.scale (power g.F.Field.field (get_or l.level.roots.now (l.j * (l.level.part_len * l.level.stride)) g.F.Field.field.zero) r) (item V (map m l.parts) (r * l.level.part_len + i)));
      others : (k i : ℕ) → i < l.level.part_len → k ≢ l.j → item V (map m l.whole) (k * l.level.part_len + i) ≡ item V (map m l.fn.whole) (k * l.level.part_len + i);
    }
