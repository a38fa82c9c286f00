use Rattle.std.proofs.Common.{◌≡◌, ℕ, map, get_or, ◌+◌, ◌-◌, ◌*◌, ◌≤◌, ◌<◌}
use Rattle.ark_math.specs.Cost.{GrowsBy, counts}
use Rattle.ark_math.specs.Module.{item}
use Rattle.ark_fft.proofs.domain.mixed_radix.kernel.apply_all_twiddles.Given as goal

abbrev pub invariant-loop-i : goal.invariant-loop-i
invariant-loop-i g l =
    let K = g.F.Field.field in
    let V = g.T.Summand.group in
    let m = g.T.Summand.meaning in
    record {
      counted : GrowsBy (counts (l.i * (l.level.base - 1)) 0 l.i) l.fn.work l.work;
      done : get_or l.level.roots.now 0 K.zero ≡ K.one → (r i : ℕ) → r < l.level.base → i < l.i → item V (map m l.parts) (r * l.level.part_len + i) ≡ V.scale (get_or l.level.roots.now (r * i * l.level.stride) K.zero) (item V (map m l.fn.parts) (r * l.level.part_len + i));
      rest : (r k : ℕ) → l.i ≤ k → k < l.level.part_len → item V (map m l.parts) (r * l.level.part_len + k) ≡ item V (map m l.fn.parts) (r * l.level.part_len + k);
    }
