-- What the loop of a plain sum keeps.
use Rattle.std.proofs.Common.{◌≡◌, map}
use Rattle.ark_math.specs.Field.{power}
use Rattle.ark_math.specs.Cost.{GrowsBy, counts}
use Rattle.ark_math.specs.Module.{item, sum_below}
use Rattle.ark_fft.proofs.domain.radix2.plain.plain_value.Given as goal

abbrev pub invariant-loop-i : goal.invariant-loop-i
invariant-loop-i g l =
    let K = g.F.Field.field in
    let V = g.T.Summand.group in
    let m = g.T.Summand.meaning in
    record {
      counted : GrowsBy (counts l.i 0 0) l.fn.work l.work;
      next_factor : l.factor ≡ power K l.point l.i;
      sum : m l.sum ≡ sum_below V l.i (λ k. V.scale (power K l.point k) (item V (map m l.items) k));
    }
