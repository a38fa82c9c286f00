-- What the loop over the places keeps.
use Rattle.std.proofs.Common.{◌≡◌, ℕ, ◌*◌, ◌<◌, map, length}
use Rattle.ark_math.specs.Field.{power}
use Rattle.ark_math.specs.Cost.{GrowsBy, counts}
use Rattle.ark_math.specs.Module.{item}
use Rattle.ark_math.specs.Transform.{value_at}
use Rattle.ark_fft.proofs.domain.radix2.plain.plain_values.Given as goal

abbrev pub invariant-loop-i : goal.invariant-loop-i
invariant-loop-i g l =
    let K = g.F.Field.field in
    let V = g.T.Summand.group in
    let m = g.T.Summand.meaning in
    record {
      counted : GrowsBy (counts (l.i * length l.items) 0 0) l.fn.work l.work;
      next_point : l.point ≡ K.times l.fn.offset (power K l.root l.i);
      before : (k : ℕ) → k < l.i → item V (map m l.values) k ≡ value_at K V (map m l.items) (K.times l.fn.offset (power K l.root k));
    }
