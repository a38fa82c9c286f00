use Rattle.std.proofs.Common.{map, ℕ, get_or}
use Rattle.ark_math.specs.Cost.{GrowsBy, butterfly_counts}
use Rattle.ark_math.specs.Module.{item}
use Rattle.ark_fft.proofs.Butterflies.{AreCrossed}
use Rattle.ark_fft.proofs.domain.radix2.time.join_butterflies.Given as goal

abbrev pub invariant-loop-i : goal.invariant-loop-i
invariant-loop-i g l =
    let V = g.T.Summand.group in
    let m = g.T.Summand.meaning in
    let lo0 = λ (k : ℕ). item V (map m l.initial.lo) k in
    let hi0 = λ (k : ℕ). item V (map m l.initial.hi) k in
    record {
      counted : GrowsBy (butterfly_counts l.i) l.fn.work l.work;
      crossed : AreCrossed m V.zero (λ (k : ℕ). V.plus (lo0 k) (V.scale (get_or l.twiddles k g.F.Field.field.zero) (hi0 k))) (λ (k : ℕ). V.plus (lo0 k) (V.negated (V.scale (get_or l.twiddles k g.F.Field.field.zero) (hi0 k)))) lo0 hi0 l.i l.lo l.hi;
    }
