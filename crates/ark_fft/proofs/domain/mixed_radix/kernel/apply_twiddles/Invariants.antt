use Rattle.std.proofs.Common.{◌≡◌, ◌≢◌, ℕ, map, get_or, ◌+◌, ◌-◌, ◌*◌, ◌≤◌, ◌<◌}
use Rattle.ark_math.specs.Cost.{GrowsBy, counts}
use Rattle.ark_math.specs.Module.{item}
use Rattle.ark_fft.proofs.domain.mixed_radix.kernel.apply_twiddles.Given as goal

abbrev pub invariant-loop-r : goal.invariant-loop-r
invariant-loop-r g l =
    let V = g.T.Summand.group in
    let m = g.T.Summand.meaning in
    record {
      from : 1 ≤ l._r;
      place : l.place ≡ (l._r - 1) * l.level.part_len + l.i;
      at : l.at ≡ (l._r - 1) * l.i * l.level.stride;
      counted : GrowsBy (counts (l._r - 1) 0 0) l.fn.work l.work;
      done : get_or l.level.roots.now 0 g.F.Field.field.zero ≡ g.F.Field.field.one → (r : ℕ) → r < l._r → item V (map m l.parts) (r * l.level.part_len + l.i) ≡ V.scale (get_or l.level.roots.now (r * l.i * l.level.stride) g.F.Field.field.zero) (item V (map m l.fn.parts) (r * l.level.part_len + l.i));
      rest : (r : ℕ) → l._r ≤ r → item V (map m l.parts) (r * l.level.part_len + l.i) ≡ item V (map m l.fn.parts) (r * l.level.part_len + l.i);
      others : (r k : ℕ) → k < l.level.part_len → k ≢ l.i → item V (map m l.parts) (r * l.level.part_len + k) ≡ item V (map m l.fn.parts) (r * l.level.part_len + k);
    }
